-- The backward pass over the records by windows of slots: what folding a record in leaves at each entry, what the table holds on the
-- way, and that it is the completion table at the end. Assumes nothing.
use Prim.Native.Nat.{ℕ, zero, suc, ◌+◌, ◌-◌, ◌*◌, ◌/◌, ◌<◌, ◌≤◌, min}
use native.Mathlib.Omega.{arith}
use native.Mathlib.Decide.{ℕ_discrete, dec_le}
use native.Mathlib.Nat.{mul-le-mul_right}
use mathlib.Core.Path.{◌≡◌, refl, sym, ap, subst, ◌∙◌}
use mathlib.Core.Bool.{Bool, true, false, cond}
use mathlib.Core.List.{List}
use mathlib.Core.Logic.{◌⊎◌, inl, inr, ⊎_elim, by_cases, ◌≢◌}
use mathlib.Core.Option.{some}
use borrow.Author.Tests.{eqb-true, eqb-false}
use lib.Arith.{digits_lt}
use lib.Dec.{eqb}
use lib.ListN.{length, get_or, drop, replicate, get_elem?, length-replicate, get_or-replicate, get_or-append}
use lib.Seq.{drop_at}
use Rattle.temporal.specs.Plan.{Contact, Plan, Terms, may_follow, window_first, window_end}
use Rattle.temporal.specs.Walk.{ends_in, is_at}
use Rattle.temporal.specs.Bytes.{contact_at, records, plan_of}
use Rattle.temporal.specs.Outcome.{over}
use Rattle.lists.proofs.ListLaws.{not_true_false}
use Rattle.walks.proofs.RuleLaws.{InTime, follows_later, follows_intro, follows_inv, leads_from_sender, leads_none}
use Rattle.lists.proofs.BufferLaws.{length_over}
use Rattle.walks.proofs.Accepted.{accepted}
use Rattle.walks.proofs.PlanLaws.{contact_there, contact_inv, contacts_length, slots_within, slots_sorted}
use Rattle.memory.specs.Fill.{filled}
use Rattle.memory.proofs.FillLaws.{filled_length, filled_other, filled_at, filled_beyond}
use Rattle.plan.specs.declared.Contact as plan
use Rattle.plan.specs.Record.{contact_of}
use Rattle.ways.specs.Home.{appearance, home_hops, Completable, Completed}
use Rattle.ways.specs.Column.{lowered}
use Rattle.ways.specs.Window.{lowered_run, folded_window, begun_window, FoldableWindow}
use Rattle.ways.proofs.FewestLaws.{Fewest, fewest_unique}
use Rattle.ways.proofs.AheadLaws.{Ahead, fewest_home, ahead_none, ahead_all, ahead_fold, ahead_past, ahead_barred}
use Rattle.ways.proofs.ColumnLaws.{lowered_there, lowered_other, lowered_length, lowered_beyond}

-- ---- entries are lowered

-- a place lies outside of a stretch of k places
abbrev Outside : ℕ → ℕ → ℕ → Type 0
Outside i at k = (i < at) ⊎ (at + k ≤ i)

-- the length stays
run_length : (l : List ℕ) (at from k : ℕ) → length (lowered_run l at from k) ≡ length l
unfolding lowered_run
run_length l at from zero = refl
run_length l at from (suc k) = run_length (lowered l at from) (at + 1) from k ∙ lowered_length l at from

-- an entry outside of the stretch stays
run_other : (l : List ℕ) (at from k i : ℕ) → Outside i at k → get_or (lowered_run l at from k) i 0 ≡ get_or l i 0
unfolding lowered_run
run_other l at from zero i out = refl
run_other l at from (suc k) i out =
    run_other (lowered l at from) (at + 1) from k i
    (⊎_elim (λ (h : i < at). inl (omega arith)) (λ (h : at + suc k ≤ i). inr (omega arith)) out)
    ∙ lowered_other l at from i (⊎_elim (λ (h : i < at). omega arith) (λ (h : at + suc k ≤ i). omega arith) out)

-- an entry of the stretch is lowered
run_there : (l : List ℕ) (at from k i : ℕ) → Outside from at k → at ≤ i → i < at + k → at + k ≤ length l
    → get_or (lowered_run l at from k) i 0 ≡ min (get_or l i 0) (get_or l from 0 + 1)
unfolding lowered_run
run_there l at from zero i out low high fits = absurd (omega arith)
run_there l at from (suc k) i out low high fits =
    let same = lowered_length l at from in
    by_cases (ℕ_discrete i at)
    (λ q.
    rw q
    (run_other (lowered l at from) (at + 1) from k at (inl (omega arith))
    ∙ lowered_there l at from (omega arith)))
    (λ n.
    run_there (lowered l at from) (at + 1) from k i
    (⊎_elim (λ (h : from < at). inl (omega arith)) (λ (h : at + suc k ≤ from). inr (omega arith)) out)
    (omega arith) (omega arith) (omega arith)
    ∙ ap (λ x. min x (get_or (lowered l at from) from 0 + 1)) (lowered_other l at from i n)
    ∙ ap (λ x. min (get_or l i 0) (x + 1))
    (lowered_other l at from from (⊎_elim (λ (h : from < at). omega arith) (λ (h : at + suc k ≤ from). omega arith) out)))

-- nothing behind the stretch is touched
run_beyond : (l : List ℕ) (at from k m : ℕ) → at + k ≤ m → drop m (lowered_run l at from k) ≡ drop m l
unfolding lowered_run
run_beyond l at from zero m h = refl
run_beyond l at from (suc k) m h =
    run_beyond (lowered l at from) (at + 1) from k m (omega arith) ∙ lowered_beyond l at from m (omega arith)

-- the first i of k entries are lowered
pub record Lowering (at from k : ℕ) (old : List ℕ) (i : ℕ) (now : List ℕ) : Type 0 where
  pub within : i ≤ k
  pub same : length now ≡ length old
  pub rest : lowered_run now (at + i) from (k - i) ≡ lowered_run old at from k

module _ (at from k : ℕ) (old : List ℕ) where
  -- none is
  pub lowering_none : Lowering at from k old 0 old
  lowering_none =
      let a : at + 0 ≡ at = omega arith in
      let c : k - 0 ≡ k = omega arith in
      record { within = omega arith; same = refl; rest = rw (a, c) }

  -- one more
  pub lowering_more : (i : ℕ) (now out : List ℕ) → i < k → Lowering at from k old i now → out ≡ lowered now (at + i) from
      → Lowering at from k old (i + 1) out
  unfolding lowered_run
  lowering_more i now out h y e =
      let a : at + (i + 1) ≡ at + i + 1 = omega arith in
      let c : k - i ≡ suc (k - (i + 1)) = omega arith in
      rw e (record {
        within = omega arith;
        same = lowered_length now (at + i) from ∙ y.same;
        rest = rw a (sym (ap (lowered_run now (at + i) from) c) ∙ y.rest);
      })

  -- all are
  pub lowering_all : (i : ℕ) (now : List ℕ) → k ≤ i → Lowering at from k old i now → now ≡ lowered_run old at from k
  unfolding lowered_run
  lowering_all i now h y =
      let c : k - i ≡ 0 = omega arith in
      sym (ap (lowered_run now (at + i) from) c) ∙ y.rest

-- ---- a record is folded in

-- a record of a slot of the columns, whose ends' rows lie within a list of so many entries
pub record ReadWindow (width size : ℕ) (r : plan.Contact) : Type 0 where
  pub from_one : 0 < r.slot
  pub column : r.slot < width
  pub few : width ≤ 256
  pub sender_row : r.sender * width + width ≤ size
  pub hearer_row : r.hearer * width + width ≤ size

-- what the record that was read is
pub read_window : (bs : List ℕ) (width j : ℕ) (l : List ℕ) (r : plan.Contact)
    → FoldableWindow bs width j l
    → contact_of r ≡ contact_at bs j
    → ReadWindow width (length l) r
read_window bs width j l r f e =
    record {
      from_one = subst (λ (c : Contact). 0 < c.slot) (sym e) f.from_one;
      column = subst (λ (c : Contact). c.slot < width) (sym e) f.column;
      few = f.few;
      sender_row = subst (λ (c : Contact). c.sender * width + width ≤ length l) (sym e) f.sender_row;
      hearer_row = subst (λ (c : Contact). c.hearer * width + width ≤ length l) (sym e) f.hearer_row;
    }

-- to lower over the record that was read is to fold it in
pub window_by : (bs : List ℕ) (width : ℕ) (terms : Terms) (j : ℕ) (l mid out : List ℕ) (r : plan.Contact) (low end size : ℕ)
    → contact_of r ≡ contact_at bs j
    → mid ≡ lowered l (r.sender * width) (r.hearer * width + r.slot)
    → low ≡ window_first terms.keeping r.slot
    → end ≡ window_end terms.turnaround r.slot
    → size ≡ end - low
    → out ≡ lowered_run mid (r.sender * width + low) (r.hearer * width + r.slot) size
    → out ≡ folded_window width terms (contact_at bs j) l
unfolding folded_window
window_by bs width terms j l mid out r low end size e one first last many whole =
    let long : size ≡ window_end terms.turnaround r.slot - window_first terms.keeping r.slot = omega arith in
    whole
    ∙ ap (λ x. lowered_run mid (r.sender * width + low) (r.hearer * width + r.slot) x) long
    ∙ ap (λ x. lowered_run mid (r.sender * width + x) (r.hearer * width + r.slot)
    (window_end terms.turnaround r.slot - window_first terms.keeping r.slot)) first
    ∙ ap (λ x. lowered_run x (r.sender * width + window_first terms.keeping r.slot) (r.hearer * width + r.slot)
    (window_end terms.turnaround r.slot - window_first terms.keeping r.slot)) one
    ∙ ap (λ c. folded_window width terms c l) e

-- the row of a station lies within a list that has room for n stations
pub row_below : {v n size : ℕ} (width : ℕ) → v < n → n * width ≤ size → v * width + width ≤ size
row_below {v} {n} width h fits = omega (arith, mul-le-mul_right {m = suc v} {n = n} width h)

-- an entry of another station lies outside of a station's row
row_apart : (v u w width : ℕ) → u < width → v ≢ w → Outside (v * width + u) (w * width) width
row_apart v u w width h other =
    by_cases (dec_le (suc v) w)
    (λ less. inl (digits_lt less h))
    (λ more.
    let end = digits_lt {q = w} {m = v} {r = width - 1} {c = width} (omega arith) (omega arith) in
    inr (omega arith))

-- slot u is the start's or of the window of slot k
abbrev InWindow : Terms → ℕ → ℕ → Type 0
InWindow terms u k = (u ≡ 0) ⊎ ((window_first terms.keeping k ≤ u) × (u < window_end terms.turnaround k))

-- a slot other than the start's is not of the window
abbrev OffWindow : Terms → ℕ → ℕ → Type 0
OffWindow terms u k = (u < window_first terms.keeping k) ⊎ (window_end terms.turnaround k ≤ u)

module _ (n width : ℕ) (terms : Terms) (c : Contact) (l : List ℕ)
    (from_one : 0 < c.slot) (column : c.slot < width)
    (sender : c.sender < n) (ends : c.hearer ≢ c.sender) (fits : n * width ≤ length l) where
  abbrev row : ℕ
  row = c.sender * width

  abbrev from : ℕ
  from = c.hearer * width + c.slot

  abbrev low : ℕ
  low = window_first terms.keeping c.slot

  abbrev size : ℕ
  size = window_end terms.turnaround c.slot - window_first terms.keeping c.slot

  abbrev mid : List ℕ
  mid = lowered l row from

  -- the sender's row lies within the table
  row_within : row + width ≤ n * width
  row_within = row_below width sender (omega arith)

  -- what lies outside of the row lies outside of the slots that are lowered
  outside_window : (i : ℕ) → Outside i row width → Outside i (row + low) size
  outside_window i = ⊎_elim (λ (h : i < row). inl (omega arith)) (λ (h : row + width ≤ i). inr (omega arith))

  -- and is not the start's entry
  outside_start : (i : ℕ) → Outside i row width → i ≢ row
  outside_start i = ⊎_elim (λ (h : i < row). λ (e : i ≡ row). omega arith) (λ (h : row + width ≤ i). λ (e : i ≡ row). omega arith)

  -- the length stays
  window_length : length (folded_window width terms c l) ≡ length l
  unfolding folded_window
  window_length = run_length mid (row + low) from size ∙ lowered_length l row from

  -- and what lies past the table
  window_beyond : drop (n * width) (folded_window width terms c l) ≡ drop (n * width) l
  unfolding folded_window
  window_beyond =
      let room = row_within in
      run_beyond mid (row + low) from size (n * width) (omega arith)
      ∙ lowered_beyond l row from (n * width) (omega arith)

  -- entries of other stations stay
  window_station : (v u : ℕ) → u < width → v ≢ c.sender
      → get_or (folded_window width terms c l) (v * width + u) 0 ≡ get_or l (v * width + u) 0
  unfolding folded_window
  window_station v u h other =
      let out = row_apart v u c.sender width h other in
      run_other mid (row + low) from size (v * width + u) (outside_window _ out)
      ∙ lowered_other l row from (v * width + u) (outside_start _ out)

  -- the sender's entries of the start and of the slots of the window are lowered by the hearer's
  window_lowers : (u : ℕ) → u < width → InWindow terms u c.slot
      → get_or (folded_window width terms c l) (row + u) 0 ≡ min (get_or l (row + u) 0) (get_or l from 0 + 1)
  unfolding folded_window
  window_lowers u h (inl first) =
      let room = row_within in
      let at : row + u ≡ row = omega arith in
      run_other mid (row + low) from size (row + u) (inl (omega arith))
      ∙ ap (λ i. get_or mid i 0) at
      ∙ lowered_there l row from (omega arith)
      ∙ ap (λ i. min (get_or l i 0) (get_or l from 0 + 1)) (sym at)
  window_lowers u h (inr (above, below)) =
      let room = row_within in
      let same = lowered_length l row from in
      let out = row_apart c.hearer c.slot c.sender width column ends in
      run_there mid (row + low) from size (row + u) (outside_window _ out) (omega arith) (omega arith) (omega arith)
      ∙ ap (λ x. min x (get_or mid from 0 + 1)) (lowered_other l row from (row + u) (omega arith))
      ∙ ap (λ x. min (get_or l (row + u) 0) (x + 1)) (lowered_other l row from from (outside_start _ out))

  -- those of other slots stay
  window_stays : (u : ℕ) → 0 < u → OffWindow terms u c.slot
      → get_or (folded_window width terms c l) (row + u) 0 ≡ get_or l (row + u) 0
  unfolding folded_window
  window_stays u heard out =
      run_other mid (row + low) from size (row + u)
      (⊎_elim (λ (h : u < low). inl (omega arith)) (λ (h : window_end terms.turnaround c.slot ≤ u).
      by_cases (dec_le (suc u) low) (λ q. inl (omega arith)) (λ q. inr (omega arith))) out)
      ∙ lowered_other l row from (row + u) (omega arith)

-- ---- the table is cleared

-- a fill and the destination's row are the beginning
pub begun_by : (n width z : ℕ) (old mid out : List ℕ) → mid ≡ over (replicate (n * width) 65535) old
    → out ≡ filled mid (z * width) width 0
    → out ≡ begun_window n width z old
unfolding begun_window
begun_by n width z old mid out e whole = whole ∙ ap (λ x. filled x (z * width) width 0) e

-- ---- the slots that a record may follow

module _ (p : Plan) (u k : ℕ) (later : 0 < k) (turns : 0 < p.terms.turnaround) where
  -- the start and the slots of the window
  follows_window : InWindow p.terms u k → may_follow p u k ≡ true
  follows_window (inl first) = follows_intro p u k (omega arith) (inl first)
  follows_window (inr (above, below)) =
      follows_intro p u k (omega arith) (inr (record { turned = omega arith; fresh = omega arith }))

  -- and no other
  follows_outside : 0 < u → OffWindow p.terms u k → may_follow p u k ≡ false
  follows_outside heard out = not_true_false (may_follow p u k) (λ e. none (follows_inv p u k e) out)
    where
      none : (u < k) × ((u ≡ 0) ⊎ InTime p u k) → OffWindow p.terms u k → ⊥
      none (more, inl first) out = omega arith
      none (more, inr w) out =
          let turned = w.turned in
          let fresh = w.fresh in
          ⊎_elim (λ (h : u < window_first p.terms.keeping k). omega arith) (λ (h : window_end p.terms.turnaround k ≤ u). omega arith) out

-- a slot is the start's or of the window, or neither
window_or_not : (terms : Terms) (u k : ℕ)
    → InWindow terms u k
    ⊎ ((0 < u) × OffWindow terms u k)
window_or_not terms u k =
    by_cases (ℕ_discrete u 0) (λ q. inl (inl q)) (λ q.
    by_cases (dec_le (window_first terms.keeping k) u)
    (λ above.
    by_cases (dec_le (window_end terms.turnaround k) u)
    (λ past. inr (omega arith, inr past))
    (λ below. inl (inr (above, omega arith))))
    (λ stale. inr (omega arith, inl (omega arith))))

-- ---- the state of the pass

-- The records from j on are taken in: every entry holds what starts from j on.
pub record Windowing (bs : List ℕ) (n t : ℕ) (terms : Terms) (z : ℕ) (old : List ℕ) (j : ℕ) (l : List ℕ) : Type 0 where
  pub ready : Completable bs n t terms z l
  pub position : j ≤ records bs
  pub entry : (v u : ℕ) → v < n → u < t + 1
      → Fewest (Ahead (plan_of bs n t terms) z j (appearance v u)) (get_or l (v * (t + 1) + u) 0)
  pub beyond : drop (n * (t + 1)) l ≡ drop (n * (t + 1)) old
  pub same : length l ≡ length old

module _ (bs : List ℕ) (n t : ℕ) (terms : Terms) (z : ℕ) where
  abbrev p : Plan
  p = plan_of bs n t terms

  abbrev c : ℕ → Contact
  c i = contact_at bs i

  -- a record of the plan may follow the start and the slots of its window, and no other
  follows_plan : 0 < terms.turnaround → (u k : ℕ) → 0 < k
      → InWindow terms u k
      → may_follow p u k ≡ true
  unfolding plan_of
  follows_plan turns u k later w = follows_window p u k later turns w

  outside_plan : 0 < terms.turnaround → (u k : ℕ) → 0 < k → 0 < u
      → OffWindow terms u k
      → may_follow p u k ≡ false
  unfolding plan_of
  outside_plan turns u k later heard out = follows_outside p u k later turns heard out

  -- ---- the beginning

  module _ (old : List ℕ) (g : Completable bs n t terms z old) where
    abbrev cleared : List ℕ
    cleared = over (replicate (n * (t + 1)) 65535) old

    cleared_length : length cleared ≡ length old
    cleared_length = length_over (replicate (n * (t + 1)) 65535) old (rw length-replicate g.fits)

    -- the destination's row lies within the table
    home_row : z * (t + 1) + (t + 1) ≤ n * (t + 1)
    home_row = row_below (t + 1) g.destination (omega arith)

    begun_length : length (begun_window n (t + 1) z old) ≡ length old
    unfolding begun_window
    begun_length = filled_length cleared (z * (t + 1)) (t + 1) 0 ∙ cleared_length

    begun_beyond : drop (n * (t + 1)) (begun_window n (t + 1) z old) ≡ drop (n * (t + 1)) old
    unfolding begun_window over
    begun_beyond =
        let size = length-replicate {A = ℕ} (n * (t + 1)) 65535 in
        filled_beyond cleared (z * (t + 1)) (t + 1) 0 (n * (t + 1)) home_row
        ∙ drop_at (replicate (n * (t + 1)) 65535) _ (n * (t + 1)) size
        ∙ ap (λ k. drop k old) size

    begun_entry : (v u : ℕ) → v < n → u < t + 1
        → get_or (begun_window n (t + 1) z old) (v * (t + 1) + u) 0 ≡ cond (eqb v z) 0 65535
    unfolding begun_window over
    begun_entry v u inside h = go (eqb v z) refl
      where
        go : (b : Bool) → eqb v z ≡ b
            → get_or (filled cleared (z * (t + 1)) (t + 1) 0) (v * (t + 1) + u) 0 ≡ cond b 0 65535
        go true q =
            let room = home_row in
            let fits = g.fits in
            let same = cleared_length in
            rw (eqb-true v z q) (filled_at cleared (z * (t + 1)) (t + 1) 0 u h (omega arith))
        go false q =
            let place = digits_lt {q = v} {m = n} {r = u} {c = t + 1} inside h in
            filled_other cleared (z * (t + 1)) (t + 1) 0 (v * (t + 1) + u)
            (row_apart v u z (t + 1) h (eqb-false v z q))
            ∙ get_or-append (replicate (n * (t + 1)) 65535) _ 0 (v * (t + 1) + u) (rw length-replicate place)
            ∙ get_or-replicate (n * (t + 1)) (v * (t + 1) + u) 65535 0 place

    -- the loop begins
    pub windowing_begun : (l : List ℕ) (j : ℕ) → l ≡ begun_window n (t + 1) z old → j ≡ length bs / 6
        → Windowing bs n t terms z l j l
    unfolding records
    windowing_begun l j e count =
        record {
          ready = record {
            accepted = g.accepted;
            units = g.units;
            destination = g.destination;
            fits = let same = ap length e ∙ begun_length in let room = g.fits in omega arith;
          };
          position = omega arith;
          entry = λ v u inside h.
              rw (e, begun_entry v u inside h)
              (ahead_none p z v u j (let m = contacts_length bs n t terms in omega arith));
          beyond = refl;
          same = refl;
        }

  module _ (old : List ℕ) (j : ℕ) (l : List ℕ) (s : Windowing bs n t terms z old j l) where
    -- ---- a record is folded in

    -- the record before j can be
    pub windowing_ready : (i : ℕ) → j ≡ suc i → FoldableWindow bs (t + 1) i l
    windowing_ready i e =
        let a = accepted bs n t s.ready.accepted in
        let within = s.position in
        let k = a.contact i (omega arith) in
        let whole = a.whole in
        let last = k.to_last in
        let few = a.slots in
        record {
          inside = omega arith;
          few = omega arith;
          from_one = k.from_one;
          column = omega arith;
          sender_row = row_below (t + 1) k.sender_station s.ready.fits;
          hearer_row = row_below (t + 1) k.hearer_station s.ready.fits;
        }

    -- it is
    pub windowing_fold : (i : ℕ) → j ≡ suc i → (out : List ℕ) → out ≡ folded_window (t + 1) terms (c i) l
        → Windowing bs n t terms z old i out
    windowing_fold i e out folded =
        rw folded (record {
          ready = record {
            accepted = s.ready.accepted;
            units = s.ready.units;
            destination = s.ready.destination;
            fits = let room = s.ready.fits in let same = size in omega arith;
          };
          position = let h = s.position in omega arith;
          entry = λ v u h k. by_cases (ℕ_discrete v (c i).sender) (from_sender v u k) (λ other.
              rw (window_station n (t + 1) terms (c i) l from_one column sender ends fits v u k other)
              (ahead_past p z v u i (c i) there (leads_none (c i) v other) (before v u h k)));
          beyond = window_beyond n (t + 1) terms (c i) l from_one column sender ends fits ∙ s.beyond;
          same = size ∙ s.same;
        })
      where
        inside : i < records bs
        inside = let h = s.position in omega arith

        turns : 0 < terms.turnaround
        turns = s.ready.units.turns

        fits : n * (t + 1) ≤ length l
        fits = s.ready.fits

        from_one : 0 < (c i).slot
        from_one = ((accepted bs n t s.ready.accepted).contact i inside).from_one

        column : (c i).slot < t + 1
        column = let last = ((accepted bs n t s.ready.accepted).contact i inside).to_last in omega arith

        sender : (c i).sender < n
        sender = ((accepted bs n t s.ready.accepted).contact i inside).sender_station

        hearer : (c i).hearer < n
        hearer = ((accepted bs n t s.ready.accepted).contact i inside).hearer_station

        ends : (c i).hearer ≢ (c i).sender
        ends q = ((accepted bs n t s.ready.accepted).contact i inside).ends (sym q)

        size : length (folded_window (t + 1) terms (c i) l) ≡ length l
        size = window_length n (t + 1) terms (c i) l from_one column sender ends fits

        there : get_elem? p.contacts i ≡ some (c i)
        there = contact_there bs n t terms i inside

        before : (v u : ℕ) → v < n → u < t + 1
            → Fewest (Ahead p z (suc i) (appearance v u)) (get_or l (v * (t + 1) + u) 0)
        before v u h k = rw (← e) (s.entry v u h k)

        -- no record up to it may follow its own slot
        none_follows : (m : ℕ) (d : Contact) → m < suc i → get_elem? p.contacts m ≡ some d
            → may_follow p (c i).slot d.slot ≡ false
        none_follows m d h at =
            let (known, same) = contact_inv bs n t terms m d at in
            let up : m + (i - m) ≡ i = omega arith in
            let rise = rw up at (slots_sorted bs n t terms s.ready.accepted m (i - m) (omega arith)) in
            not_true_false (may_follow p (c i).slot d.slot) (λ f.
            let later = follows_later p (c i).slot d.slot f in
            let own = ap (λ (x : Contact). x.slot) same in
            omega arith)

        -- so the hearer's entry is finished
        ahead : Fewest (λ r. ends_in p (appearance (c i).hearer (c i).slot) (is_at z) r ≡ true)
            (get_or l ((c i).hearer * (t + 1) + (c i).slot) 0)
        ahead =
            ahead_all p z (appearance (c i).hearer (c i).slot) (suc i) _ none_follows
            (before (c i).hearer (c i).slot hearer column)

        from_sender : (v u : ℕ) → u < t + 1 → v ≡ (c i).sender
            → Fewest (Ahead p z i (appearance v u)) (get_or (folded_window (t + 1) terms (c i) l) (v * (t + 1) + u) 0)
        from_sender v u k q = rw q (⊎_elim lowers stays (window_or_not terms u (c i).slot))
          where
            lowers : InWindow terms u (c i).slot
                → Fewest (Ahead p z i (appearance (c i).sender u))
                (get_or (folded_window (t + 1) terms (c i) l) ((c i).sender * (t + 1) + u) 0)
            lowers w =
                rw (window_lowers n (t + 1) terms (c i) l from_one column sender ends fits u k w)
                (ahead_fold p z (c i).sender u i (c i) there (follows_plan turns u (c i).slot from_one w) (leads_from_sender (c i))
                (before (c i).sender u sender k) ahead)

            stays : (0 < u) × OffWindow terms u (c i).slot
                → Fewest (Ahead p z i (appearance (c i).sender u))
                (get_or (folded_window (t + 1) terms (c i) l) ((c i).sender * (t + 1) + u) 0)
            stays (heard, out) =
                rw (window_stays n (t + 1) terms (c i) l from_one column sender ends fits u heard out)
                (ahead_barred p z (c i).sender u i (c i) there (outside_plan turns u (c i).slot from_one heard out)
                (before (c i).sender u sender k))

    -- ---- the end

    -- with no record left every entry is what its appearance has to go
    finished : j ≤ 0 → (v u : ℕ) → v < n → u < t + 1 → get_or l (v * (t + 1) + u) 0 ≡ home_hops p z v u
    unfolding plan_of
    finished none v u inside h =
        let few = (accepted bs n t s.ready.accepted).slots in
        fewest_unique
        (ahead_all p z (appearance v u) j _ (λ i d less at. absurd (omega arith)) (s.entry v u inside h))
        (fewest_home p z (slots_within bs n t terms s.ready.accepted) (omega arith) (appearance v u) (omega arith))

-- it ends
pub windowing_end : (bs : List ℕ) (n t : ℕ) (terms : Terms) (z : ℕ) (old : List ℕ) → Completable bs n t terms z old
    → (first : List ℕ) (j : ℕ) (l : List ℕ)
    → first ≡ begun_window n (t + 1) z old
    → Windowing bs n t terms z first j l
    → j ≤ 0
    → Completed bs n t terms z old l
windowing_end bs n t terms z old g first j l e s none =
    record {
      table = record {
        fits = s.ready.fits;
        start = λ v h. ap (λ k. get_or l k 0) (first_place v (t + 1)) ∙ entry v 0 h (omega arith);
        heard = λ i h.
            let c = (accepted bs n t g.accepted).contact i h in
            let last = c.to_last in
            entry (contact_at bs i).hearer (contact_at bs i).slot c.hearer_station (omega arith);
      };
      beyond = s.beyond ∙ ap (drop (n * (t + 1))) e ∙ begun_beyond bs n t terms z old g;
      same = s.same ∙ ap length e ∙ begun_length bs n t terms z old g;
    }
  where
    entry : (v u : ℕ) → v < n → u < t + 1 → get_or l (v * (t + 1) + u) 0 ≡ home_hops (plan_of bs n t terms) z v u
    entry = finished bs n t terms z first j l s none

    first_place : (v width : ℕ) → v * width ≡ v * width + 0
    first_place v width = omega arith
