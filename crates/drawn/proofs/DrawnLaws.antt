-- Loads for the drawing program as it is defined, from what loads leaves. Assumes nothing.
use Prim.Native.Nat.{ℕ, ◌<◌, ◌≤◌}
use native.Mathlib.Nat.{mul-le-mul}
use native.Mathlib.Omega.{arith}
use mathlib.Core.Path.{◌≡◌, refl, sym, ap, ap₂, ◌∙◌}
use mathlib.Core.Bool.{true, false, cond}
use mathlib.Core.List.{List, [], map}
use mathlib.Core.Logic.{⊎_elim}
use borrow.Author.Tests.{lt-ltb, le-ltb}
use lib.ListN.{length, get_or, replicate}
use Rattle.temporal.specs.Plan.{Terms}
use Rattle.temporal.specs.Lists.{below}
use Rattle.temporal.specs.Load.{pairs, load}
use Rattle.temporal.specs.Bytes.{plan_of}
use Rattle.temporal.specs.Cause.{plan_fault, first, terms_causes, too_many_anywhere}
use Rattle.temporal.specs.Outcome.{Outcome, over, cleared, work_size}
use Rattle.temporal.specs.OutcomePair.{LoadBuffers, partly_loaded}
use Rattle.temporal.specs.OutcomeDrawn.{DrawnBuffers, records_size, drawn_records, drawn_loaded, drawn_short, drawn_loads}
use Rattle.walks.proofs.Accepted.{accepted}
use Rattle.lists.proofs.BufferLaws.{written, length_made, length_over}
use Rattle.walks.proofs.EnteredLaws.{
  refused_with,
  entered_plan,
  entered_call,
  entered_none,
  entered_cause,
  entered_pass,
  entered_work,
}
use Rattle.lists.proofs.ListLaws.{true_or_false}
use Rattle.counting.proofs.ExactSum.{pairs_at_most, load_below}
use Rattle.plan.specs.Fault.{plan_number, call_number, fault_number, check_number, answer_number}
use Rattle.plan.specs.declared.Fault.{Fault}
use Rattle.plan.specs.declared.CallFault.{CallFault}
use Rattle.plan.specs.declared.PlanFault.{PlanFault}
use Rattle.std.specs.Prelude.{Result, Ok, Err}
use Rattle.plan.proofs.Answers.{number-positive, fault-number-within}
use Rattle.calls.specs.Call.{call_check_number}
use Rattle.calls.proofs.CallLaws.{terms_allowed, terms_refused}
use Rattle.loads.specs.Answer.{load_buffers, loads_outcome}
use Rattle.drawn.specs.Answer.{drawn_buffers, drawn_outcome}
use Rattle.drawn.specs.Work.{records_from, Drawable, DrawnReady}
use Rattle.drawn.proofs.RecordsLaws.{records_all}

-- ---- the work, from what loads leaves

module _ (bs : List ℕ) (n t : ℕ) (terms : Terms) (ps ls rs area : List ℕ) (ready : DrawnReady bs n t terms ps ls rs area)
    (r : Result (Unit {0}) Fault) (ps' ls' area' : List ℕ)
    (left : loads_outcome r (load_buffers ps' ls' area') ≡ partly_loaded (plan_of bs n t terms) n (load_buffers ps ls area)) where
  -- the records besides
  drawn_by :
      (rs' : List ℕ) →
      rs' ≡
      cond (too_many_anywhere (plan_of bs n t terms)) (cleared (records_size n) rs) (over (drawn_records (plan_of bs n t terms)) rs) →
      drawn_outcome r (drawn_buffers ps' ls' rs' area') ≡ drawn_loaded (plan_of bs n t terms) (drawn_buffers ps ls rs area)
  unfolding drawn_loaded plan_of
  drawn_by rs' e =
      ap₂
      (λ (o : Outcome (Unit {0}) LoadBuffers) (l : List ℕ).
      record { number = o.number; values = tt; buffers = record { tables = o.buffers; records = l } })
      left e

  -- loads refused: its number is 9, and the records are cleared
  module _ (f : Fault) (is : r ≡ Err f) where
    many : too_many_anywhere (plan_of bs n t terms) ≡ true
    unfolding partly_loaded plan_of
    many =
        ⊎_elim
        (λ yes. yes)
        (λ no.
        let number : fault_number f ≡ 0 = ap answer_number (sym is) ∙ ap (λ o. o.number) (rw no at left) in
        absurd (omega (arith, (fault-number-within f).0)))
        (true_or_false (too_many_anywhere (plan_of bs n t terms)))

    pub drawn_refused :
        (rs' : List ℕ) → rs' ≡ over (replicate (records_size n) 0) rs →
        drawn_outcome (Err f) (drawn_buffers ps' ls' rs' area') ≡
        drawn_loaded (plan_of bs n t terms) (drawn_buffers ps ls rs area)
    unfolding cleared
    drawn_refused rs' e =
        ap (λ a. drawn_outcome a (drawn_buffers ps' ls' rs' area')) (sym is) ∙ drawn_by rs' (rw many e)

  -- loads went through: the tables have the pairs and the loads, which are small enough to be drawn
  module _ (is : r ≡ Ok tt) where
    few : too_many_anywhere (plan_of bs n t terms) ≡ false
    unfolding partly_loaded plan_of
    few =
        ⊎_elim
        (λ yes. absurd (let z : ◌≡◌ {A = ℕ} 0 9 = ap answer_number (sym is) ∙ ap (λ o. o.number) (rw yes at left) in omega arith))
        (λ no. no)
        (true_or_false (too_many_anywhere (plan_of bs n t terms)))

    pairs_are : ps' ≡ over (map (pairs (plan_of bs n t terms)) (below n)) ps
    unfolding partly_loaded plan_of
    pairs_are = let no = few in ap (λ o. o.buffers.pairs_table) (rw no at left)

    loads_are : ls' ≡ over (map (load (plan_of bs n t terms)) (below n)) ls
    unfolding partly_loaded plan_of
    loads_are = let no = few in ap (λ o. o.buffers.load_table) (rw no at left)

    pairs_at : (v : ℕ) → v < n → get_or ps' v 0 ≡ pairs (plan_of bs n t terms) v
    pairs_at v h = ap (λ l. get_or l v 0) pairs_are ∙ written (pairs (plan_of bs n t terms)) n v ps h

    loads_at : (v : ℕ) → v < n → get_or ls' v 0 ≡ load (plan_of bs n t terms) v
    loads_at v h = ap (λ l. get_or l v 0) loads_are ∙ written (load (plan_of bs n t terms)) n v ls h

    made_fits : (f : ℕ → ℕ) (l l' : List ℕ) → l' ≡ over (map f (below n)) l → n ≤ length l → n ≤ length l'
    made_fits f l l' e h =
        let size = length_made f n in
        let same = ap length e ∙ length_over (map f (below n)) l (omega arith) in
        omega arith

    pub drawn_drawable : Drawable n ps' ls' rs
    unfolding plan_of
    drawn_drawable =
        let most = (accepted bs n t ready.ready.accepted).stations in
        record {
          pairs_room = made_fits (pairs (plan_of bs n t terms)) ps ps' pairs_are ready.ready.pairs_room;
          loads_room = made_fits (load (plan_of bs n t terms)) ls ls' loads_are ready.ready.loads_room;
          records_room = ready.records_room;
          pairs_low = λ v h. omega (arith, pairs_at v h, pairs_at_most (plan_of bs n t terms) n v, mul-le-mul most most);
          loads_low = λ v h. rw (loads_at v h) (load_below (plan_of bs n t terms) n v most most);
        }

    pub drawn_loaded_law :
        (rs' : List ℕ) → rs' ≡ over (records_from ps' ls' 0 n) rs →
        drawn_outcome (Ok tt) (drawn_buffers ps' ls' rs' area') ≡
        drawn_loaded (plan_of bs n t terms) (drawn_buffers ps ls rs area)
    unfolding plan_of
    drawn_loaded_law rs' e =
        let same : records_from ps' ls' 0 n ≡ drawn_records (plan_of bs n t terms) =
        records_all (plan_of bs n t terms) ps' ls' n pairs_at loads_at refl in
        let no = few in
        ap (λ a. drawn_outcome a (drawn_buffers ps' ls' rs' area')) (sym is) ∙
        drawn_by rs' (rw no (e ∙ ap (λ l. over l rs) same))

-- ---- how the operation begins

module _ (bs : List ℕ) (n t : ℕ) (terms : Terms) (ps ls rs area : List ℕ) where
  abbrev buffers : DrawnBuffers
  buffers = drawn_buffers ps ls rs area

  abbrev Is : ℕ → Type 0
  Is k = ◌≡◌ {A = Outcome (Unit {0}) DrawnBuffers} (record { number = k; values = tt; buffers = buffers }) (drawn_loads bs n t terms buffers)

  pub drawn_plan : (r : Result (Unit {0}) PlanFault) (f : PlanFault) → check_number r ≡ plan_fault bs n t → r ≡ Err f → Is (plan_number f)
  unfolding drawn_loads
  drawn_plan r f answer e =
      let number : plan_number f ≡ plan_fault bs n t = ap check_number (sym e) ∙ answer in
      let some = number-positive f in
      ap (refused_with tt buffers (drawn_loaded (plan_of bs n t terms) buffers)) number ∙
      sym (entered_plan tt buffers (drawn_loaded (plan_of bs n t terms) buffers) bs n t _ (omega arith))

  module _ (ok : plan_fault bs n t ≡ 0) where
    -- 12 or 14
    pub drawn_terms :
        (r : Result (Unit {0}) CallFault) → call_check_number r ≡ first (terms_causes terms) → (f : CallFault) → r ≡ Err f → Is (call_number f)
    unfolding drawn_loads
    drawn_terms r found f e = terms_refused tt buffers _ bs n t terms _ ok r found f e

    module _ (right : first (terms_causes terms) ≡ 0) where
      lacks : drawn_short n t buffers ≡ true → Is 8
      unfolding drawn_loads
      lacks e =
          sym (entered_call tt buffers _ bs n t _ ok ∙ entered_none tt buffers _ (terms_causes terms) _ right ∙
          entered_cause tt buffers _ 7 _ [] e)

      pub drawn_short_pairs : length ps < n → Is 8
      drawn_short_pairs h = lacks (rw (lt-ltb (length ps) n h))

      module _ (a : n ≤ length ps) where
        pub drawn_short_loads : length ls < n → Is 8
        drawn_short_loads h = lacks (rw (le-ltb (length ps) n a, lt-ltb (length ls) n h))

        module _ (b : n ≤ length ls) where
          pub drawn_short_records : length rs < records_size n → Is 8
          drawn_short_records h =
              lacks (rw (le-ltb (length ps) n a, le-ltb (length ls) n b, lt-ltb (length rs) (records_size n) h))

          module _ (c : records_size n ≤ length rs) where
            pub drawn_short_area : length area < work_size n t → Is 8
            drawn_short_area h =
                lacks
                (rw (
                  le-ltb (length ps) n a,
                  le-ltb (length ls) n b,
                  le-ltb (length rs) (records_size n) c,
                  lt-ltb (length area) (work_size n t) h,
                ))

            module _ (d : work_size n t ≤ length area) where
              pub drawn_works : drawn_loads bs n t terms buffers ≡ drawn_loaded (plan_of bs n t terms) buffers
              unfolding drawn_loads
              drawn_works =
                  entered_call tt buffers _ bs n t _ ok ∙ entered_none tt buffers _ (terms_causes terms) _ right ∙
                  entered_pass tt buffers _ 8 _ []
                  (rw (
                    le-ltb (length ps) n a,
                    le-ltb (length ls) n b,
                    le-ltb (length rs) (records_size n) c,
                    le-ltb (length area) (work_size n t) d,
                  )) ∙
                  entered_work tt buffers _

              -- what the work asks
              pub drawn_ready : DrawnReady bs n t terms ps ls rs area
              drawn_ready =
                  record {
                    ready = record {
                      accepted = ok;
                      units = terms_allowed terms right;
                      sources = omega arith;
                      pairs_room = a;
                      loads_room = b;
                      area = d;
                    };
                    records_room = c;
                  }
