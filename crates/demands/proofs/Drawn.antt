-- C-24 holds of the loads for the drawing program and of reading a record. Assumes nothing.
use Rattle.plan.specs.declared.Fault.{Fault}
use Rattle.std.specs.Prelude.{Result}
use Prim.Native.Nat.{ℕ, ◌+◌, ◌*◌, ◌^◌, ◌≤◌, ◌<◌}
use native.Mathlib.Nat.{mul-le-mul, mul_comm, mul_assoc, mul_right_comm, mul-le-mul_right, mul-lt-mul_of_pos_right}
use native.Mathlib.Omega.{arith}
use mathlib.Core.Path.{◌≡◌, sym, ap, ap₂, subst, ◌∙◌}
use mathlib.Core.Bool.{◌||◌}
use mathlib.Core.List.{List, [], ◌∷◌, ◌++◌}
use Rattle.std.specs.Prelude.{Option}
use mathlib.Core.Logic.{◌↔◌, ⊎_elim}
use borrow.Author.Tests.{ltb-false}
use lib.Pow.{pow-add, pow_pos}
use lib.ListN.{get_or, take, drop}
use Rattle.temporal.specs.Plan.{Plan, Terms}
use Rattle.temporal.specs.Load.{pairs, load, common_count, exact_sum}
use Rattle.temporal.specs.Bytes.{plan_of}
use Rattle.temporal.specs.Cause.{cause, plan_fault, plan_causes, terms_causes, first, too_many_anywhere}
use Rattle.temporal.specs.Outcome.{Outcome, short, work_size}
use Rattle.temporal.specs.OutcomePair.{LoadBuffers, partly_loaded, loads}
use Rattle.temporal.specs.Drawing.{ExactShare, carried, low_bits, high_bits, drawn_record, CouldWrite, foreign, station, Reads}
use Rattle.temporal.specs.OutcomeDrawn.{DrawnBuffers, records_size, drawn_loaded, drawn_short, drawn_loads}
use Rattle.walks.proofs.Accepted.{accepted}
use Rattle.temporal.proofs.CauseLaws.{first_append_left, first_append_right, first_head, or_false_left, or_false_right}
use Rattle.walks.proofs.EnteredLaws.{no_first, no_cause}
use Rattle.lists.proofs.ListLaws.{true_or_false}
use Rattle.counting.proofs.ExactSum.{pairs_at_most, load_below, within_exact_sum}
use Rattle.loads.proofs.LoadLaws.{loads_works}
use Rattle.drawing.specs.Reading.{read_result}
use Rattle.drawing.specs.declared.Reading.{Reading}
use Rattle.drawing.proofs.ShareLaws.{share_is_exact}
use Rattle.drawing.proofs.FigureLaws.{low_of_law, high_of_law}
use Rattle.drawing.proofs.RecordLaws.{reads_unique, foreign_length, written_reads}
use Rattle.drawing.proofs.ForeignLaws.{foreign_kinds}
use Rattle.drawn.proofs.RecordsLaws.{record_in}
use Rattle.demands.specs.PairLoads.{LoadsAccepts}
use Rattle.demands.specs.Drawn.{DrawnAccepts, record_at, Unrounded, Spans, DrawnDemand}
use Rattle.demands.proofs.CountLaws.{loads_demand}

-- ---- the doubles

-- an inequality of whole numbers, scaled
scaled_most : (a q l d s : ℕ) → l * d ≤ a * s → l * q * d ≤ s * (a * q)
scaled_most a q l d s h =
    subst (λ x. l * q * d ≤ x) (ap (λ x. x * q) (mul_comm a s) ∙ mul_assoc s a q)
    (subst (λ x. x ≤ a * s * q) (mul_right_comm l d q) (mul-le-mul_right q h))

scaled_below : (a q l d s : ℕ) → 0 < q → a * s < l * d → s * (a * q) < l * q * d
scaled_below a q l d s some h =
    subst (λ x. x < l * q * d) (ap (λ x. x * q) (mul_comm a s) ∙ mul_assoc s a q)
    (subst (λ x. a * s * q < x) (mul_right_comm l d q) (mul-lt-mul_of_pos_right h some))

wide : 2 ^ 1074 ≡ 2 ^ 32 * 2 ^ 1042
wide = pow-add 2 32 1042

-- of a plan of at most 256 stations

module _ (p : Plan) (v : ℕ) (few : p.stations ≤ 256) where
  load_low : load p v < 2 ^ 49
  load_low = load_below p p.stations v few few

  pairs_low : pairs p v < 2 ^ 49
  pairs_low = omega (arith, pairs_at_most p p.stations v, mul-le-mul few few)

  no_pairs : pairs p v ≡ 0 → load p v ≡ 0
  no_pairs e = ((within_exact_sum p v).none e).0

  unrounded : Unrounded p v
  unfolding carried low_bits high_bits
  unrounded =
      let l = low_of_law (load p v) (pairs p v) no_pairs in
      let h = high_of_law (load p v) (pairs p v) no_pairs in
      let a = load_low in
      let b = pairs_low in
      record {
        low = subst (λ x. ExactShare x (load p v)) (sym l) (share_is_exact (load p v) (omega arith));
        high = subst (λ x. ExactShare x (load p v + pairs p v)) (sym h) (share_is_exact (load p v + pairs p v) (omega arith));
        idle = λ e. (ap (λ k. low_bits (carried (load p v) k)) e, ap (λ k. high_bits (carried (load p v) k)) e);
      }

  spans : 0 < pairs p v → Spans p v
  spans some =
      let near = within_exact_sum p v in
      let u = unrounded in
      record {
        at_least = rw (u.low.value, wide) (scaled_most (2 ^ 32) (2 ^ 1042) (load p v) (common_count p v) (exact_sum p v) near.at_most);
        below =
            rw (u.high.value, wide)
            (scaled_below (2 ^ 32) (2 ^ 1042) (load p v + pairs p v) (common_count p v) (exact_sum p v) (pow_pos 1042) (near.less some));
      }

-- ---- an accepted call

module _ (bs : List ℕ) (n t : ℕ) (terms : Terms) (old : DrawnBuffers) (r : Result (Unit {0}) Fault) (new : DrawnBuffers)
    (a : DrawnAccepts bs n t terms old r new) where
  -- none of its causes holds
  free : first (plan_causes bs n t ++ (terms_causes terms ++ cause 8 (drawn_short n t old) ∷ [])) ≡ 0
  unfolding drawn_loads
  free = no_first _ tt tt old new _ (rw a.accepted at a.contract)

  done : ◌≡◌ {A = Outcome (Unit {0}) DrawnBuffers} (record { number = 0; values = tt; buffers = new }) (drawn_loaded (plan_of bs n t terms) old)
  unfolding drawn_loads
  done = no_cause _ tt tt old new _ (rw a.accepted at a.contract)

  ok : plan_fault bs n t ≡ 0
  unfolding plan_fault
  ok = first_append_left (plan_causes bs n t) _ free

  few : n ≤ 256
  few = (accepted bs n t ok).stations

  same_loads : ◌≡◌ {A = Outcome (Unit {0}) LoadBuffers} (record { number = 0; values = tt; buffers = new.tables })
      (loads bs n t terms old.tables)
  unfolding drawn_loaded plan_of
  same_loads =
      let call = first_append_right (plan_causes bs n t) _ free in
      let right = first_append_left (terms_causes terms) _ call in
      let lent = first_head 7 (drawn_short n t old) [] (first_append_right (terms_causes terms) _ call) in
      let ps = short n old.tables.pairs_table in
      let ls = short n old.tables.load_table in
      let rs = short (records_size n) old.records in
      let area = short (work_size n t) old.tables.work in
      let later = or_false_right ps (ls || (rs || area)) lent in
      ap (λ o. record { number = o.number; values = tt; buffers = o.buffers.tables }) done ∙
      sym
      (loads_works bs n t terms n old.tables.pairs_table old.tables.load_table old.tables.work ok right (omega arith)
      (ltb-false _ _ (or_false_left ps (ls || (rs || area)) lent))
      (ltb-false _ _ (or_false_left ls (rs || area) later))
      (ltb-false _ _ (or_false_right rs area (or_false_right ls (rs || area) later))))

  pub as_loads : LoadsAccepts bs n t terms old.tables r new.tables
  as_loads =
      record {
        contract = ap (λ k. record { number = k; values = tt; buffers = new.tables }) a.accepted ∙ same_loads;
        accepted = a.accepted;
      }

  pub records_of :
      (v : ℕ) → v < n → record_at new v ≡ drawn_record v (load (plan_of bs n t terms) v) (pairs (plan_of bs n t terms) v)
  unfolding drawn_loaded partly_loaded plan_of
  records_of v h =
      ⊎_elim
      (λ many. absurd (let z : ◌≡◌ {A = ℕ} 0 9 = ap (λ o. o.number) (rw many at done) in omega arith))
      (λ no.
      ap (λ o. take 18 (drop (18 * v) o.buffers.records)) (rw no at done) ∙ record_in (plan_of bs n t terms) old.records v h)
      (true_or_false (too_many_anywhere (plan_of bs n t terms)))

  pub read_back :
      (v : ℕ) → v < n → (b : Option Reading) → Reads (record_at new v) (read_result b) →
      read_result b ≡ station v (get_or new.tables.load_table v 0) (get_or new.tables.pairs_table v 0)
  unfolding plan_of
  read_back v h b q =
      let p = plan_of bs n t terms in
      let most = few in
      let here = loads_demand bs n t terms old.tables r new.tables as_loads v h in
      reads_unique (record_at new v) (read_result b) (station v (load p v) (pairs p v)) q
      (subst (λ l. Reads l (station v (load p v) (pairs p v))) (sym (records_of v h))
      (written_reads v (load p v) (pairs p v) (omega arith) (load_low p v most) (pairs_low p v most) (no_pairs p v most))) ∙
      ap₂ (λ x y. station v x y) (sym here.load_of) (sym here.pairs_of)

-- ---- all bytes

module _ (bytes : List ℕ) (a : Option Reading) (q : Reads bytes (read_result a)) where
  pub foreign_exactly : (read_result a ≡ foreign) ↔ ((v load pairs : ℕ) → CouldWrite v load pairs bytes → ⊥)
  unfolding Reads
  foreign_exactly = (
    λ e. subst (Reads bytes) e q,
    λ none. reads_unique bytes (read_result a) foreign q none,
  )

  pub read_exactly : (v load pairs : ℕ) → (read_result a ≡ station v load pairs) ↔ CouldWrite v load pairs bytes
  unfolding Reads
  read_exactly v load pairs = (
    λ e. subst (Reads bytes) e q,
    λ could. reads_unique bytes (read_result a) (station v load pairs) q could,
  )

pub drawn_demand : DrawnDemand
unfolding plan_of
drawn_demand =
    record {
      as_loads = as_loads;
      records_of = records_of;
      unrounded = λ bs n t terms old r new a v h. unrounded (plan_of bs n t terms) v (few bs n t terms old r new a);
      spans = λ bs n t terms old r new a v h. spans (plan_of bs n t terms) v (few bs n t terms old r new a);
      read_back = read_back;
      foreign_exactly = foreign_exactly;
      foreign_length = λ bytes a q h. reads_unique bytes (read_result a) foreign q (foreign_length bytes h);
      read_exactly = read_exactly;
      kinds = foreign_kinds;
      taken = λ v load pairs a b c some. written_reads v load pairs a b c (λ e. absurd (omega arith));
    }
