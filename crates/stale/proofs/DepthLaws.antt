-- How many records are of a slot, and the depth that is found from the sums over the slots. Assumes nothing.
use Rattle.std.proofs.Common.{◌≡◌, ℕ, zero, suc, ◌+◌, ◌-◌, ◌*◌, ◌<◌, ◌≤◌, min, cond, eqb, ◌≢◌, ◌⊎◌, List, length, sym, refl, ap, ◌∙◌, subst, inl, inr, ⊎_elim, mul-le-mul, mul-le-mul_left, add-one, arith, eq-eqb, ne_eqb}
use native.Mathlib.Decide.{dec_le, ℕ_discrete}
use mathlib.Core.Logic.{by_cases}
use Rattle.temporal.specs.Lists.{below, from, select}
use Rattle.temporal.specs.Plan.{units}
use Rattle.temporal.specs.Bytes.{contact_at, records}
use Rattle.lists.proofs.ListLaws.{length_select}
use Rattle.walks.proofs.Accepted.{Accepted, accepted}
use Rattle.walks.proofs.PlanLaws.{slots_sorted}
use Rattle.counting.proofs.SumLaws.{sum_below_suc}
use Rattle.plan.specs.Record.{SlotRecords}
use Rattle.plan.proofs.SlotLaws.{in_slot_inv, in_slot_none}
use Rattle.stale.specs.Depth.{slot_before, slot_load, spread, Deep, DepthReady, DepthOf}
use Rattle.stale.proofs.SpreadLaws.{spread_most, spread_zero, spread_slide}

-- ---- the numbers

module _ (bs : List ℕ) (x : ℕ) where
  pub slot_none : slot_before bs x 0 ≡ 0
  unfolding slot_before below from select
  slot_none = refl

  pub slot_suc : (j : ℕ) → slot_before bs x (j + 1) ≡ slot_before bs x j + cond (eqb (contact_at bs j).slot x) 1 0
  unfolding slot_before
  slot_suc j =
      rw add-one (length_select (λ i. eqb (contact_at bs i).slot x) (below (suc j))
      ∙ sum_below_suc (λ i. cond (eqb (contact_at bs i).slot x) 1 0) j
      ∙ ap (λ k. k + cond (eqb (contact_at bs j).slot x) 1 0) (sym (length_select (λ i. eqb (contact_at bs i).slot x) (below j))))

  -- a record more
  slot_more : (j : ℕ) → (contact_at bs j).slot ≡ x → slot_before bs x (j + 1) ≡ slot_before bs x j + 1
  slot_more j e = slot_suc j ∙ rw (eq-eqb (contact_at bs j).slot x e)

  slot_same : (j : ℕ) → (contact_at bs j).slot ≢ x → slot_before bs x (j + 1) ≡ slot_before bs x j
  slot_same j d = slot_suc j ∙ rw (ne_eqb (contact_at bs j).slot x d) (omega arith)

  slot_step : (j : ℕ) → (slot_before bs x j ≤ slot_before bs x (j + 1)) × (slot_before bs x (j + 1) ≤ slot_before bs x j + 1)
  slot_step j =
      by_cases (ℕ_discrete (contact_at bs j).slot x)
      (λ e. let h = slot_more j e in (omega arith, omega arith)) (λ d. let h = slot_same j d in (omega arith, omega arith))

  -- more records do not have fewer
  slot_rise : (k j : ℕ) → slot_before bs x j ≤ slot_before bs x (j + k)
  slot_rise zero j = let same : j + 0 ≡ j = omega arith in rw same (omega arith)
  slot_rise (suc k) j =
      let same : j + suc k ≡ j + k + 1 = omega arith in
      rw same (omega (arith, slot_rise k j, slot_step (j + k)))

  pub rises : (j k : ℕ) → j ≤ k → slot_before bs x j ≤ slot_before bs x k
  rises j k h = let same : j + (k - j) ≡ k = omega arith in rw same at (slot_rise (k - j) j)

  -- where none from j on is of the slot
  slot_none_from : (k j : ℕ) → ((i : ℕ) → j ≤ i → i < j + k → (contact_at bs i).slot ≢ x) → slot_before bs x (j + k) ≡ slot_before bs x j
  slot_none_from zero j other = let same : j + 0 ≡ j = omega arith in rw same
  slot_none_from (suc k) j other =
      let same : j + suc k ≡ j + k + 1 = omega arith in
      rw same (slot_same (j + k) (other (j + k) (omega arith) (omega arith))
      ∙ slot_none_from k j (λ i low high. other i low (omega arith)))

  -- where all from j on are
  slot_all : (k j : ℕ) → ((i : ℕ) → j ≤ i → i < j + k → (contact_at bs i).slot ≡ x) → slot_before bs x (j + k) ≡ slot_before bs x j + k
  slot_all zero j here = let same : j + 0 ≡ j = omega arith in rw same (omega arith)
  slot_all (suc k) j here =
      let same : j + suc k ≡ j + k + 1 = omega arith in
      rw same (omega (
        arith,
        slot_more (j + k) (here (j + k) (omega arith) (omega arith)),
        slot_all k j (λ i low high. here i low (omega arith)),
      ))

  pub slot_run : (j e : ℕ) → j ≤ e → e ≤ records bs → ((i : ℕ) → j ≤ i → i < e → (contact_at bs i).slot ≡ x)
      → e - j ≤ slot_before bs x (records bs)
  slot_run j e from last here =
      let same : j + (e - j) ≡ e = omega arith in
      omega (
        arith,
        rises e (records bs) last,
        ap (slot_before bs x) same,
        slot_all (e - j) j (λ i low high. here i low (omega arith)),
      )

-- ---- the most appearances of a slot

module _ (bs : List ℕ) (n : ℕ) where
  load_most : (x : ℕ) → slot_load bs n x ≤ n
  unfolding slot_load
  load_most x = omega arith

  pub load_run : (x q : ℕ) → q ≤ n → q ≤ slot_before bs x (records bs) → q ≤ slot_load bs n x
  unfolding slot_load
  load_run x q a b = omega arith

-- ---- the records of one slot after another

-- position j is past the records of the slots before x, and before those of the others
pub record AtSlot (bs : List ℕ) (x j : ℕ) : Type 0 where
  pub inside : j ≤ records bs
  pub before : (i : ℕ) → i < j → (contact_at bs i).slot < x
  pub after : (i : ℕ) → j ≤ i → i < records bs → x ≤ (contact_at bs i).slot

pub at_inside : (bs : List ℕ) (x j : ℕ) → AtSlot bs x j → j * 6 ≤ length bs
unfolding records
at_inside bs x j a = let h = a.inside in omega arith

module _ (bs : List ℕ) (n x j e : ℕ) (a : AtSlot bs x j) (s : SlotRecords bs x j e) where
  run_here : (i : ℕ) → j ≤ i → i < e → (i < records bs) × ((contact_at bs i).slot ≡ x)
  run_here i low high = in_slot_inv bs i x (s.here i low high)

  run_inside : e ≤ records bs
  run_inside =
      let from = s.from in
      by_cases (dec_le e j)
      (λ none. omega (arith, a.inside))
      (λ some. omega (arith, run_here (e - 1) (omega arith) (omega arith)))

  module _ (sorted : (i k : ℕ) → i + k < records bs → (contact_at bs i).slot ≤ (contact_at bs (i + k)).slot) where
    run_after : (i : ℕ) → e ≤ i → i < records bs → x < (contact_at bs i).slot
    run_after i low high =
        let from = s.from in
        let other = in_slot_none bs e x s.past (omega arith) in
        let least = a.after e from (omega arith) in
        let same : e + (i - e) ≡ i = omega arith in
        let rise = rw same at (sorted e (i - e) (omega arith)) in
        omega arith

    -- past its records the next slot's stand
    at_next : AtSlot bs (x + 1) e
    at_next =
        record {
          inside = run_inside;
          before = λ i high. by_cases (dec_le j i)
              (λ low. omega (arith, run_here i low high))
              (λ low. omega (arith, a.before i (omega arith)));
          after = λ i low high. omega (arith, run_after i low high);
        }

    -- they are all that it has
    run_load : min n (e - j) ≡ slot_load bs n x
    unfolding slot_load
    run_load =
        let from = s.from in
        let last = run_inside in
        let low : 0 + j ≡ j = omega arith in
        let mid : j + (e - j) ≡ e = omega arith in
        let high : e + (records bs - e) ≡ records bs = omega arith in
        let none = slot_none bs x in
        let first = slot_none_from bs x j 0 (λ i l h q. omega (arith, a.before i (omega arith))) in
        let all = slot_all bs x (e - j) j (λ i l h. (run_here i l (omega arith)).1) in
        let rest = slot_none_from bs x (records bs - e) e (λ i l h q. omega (arith, run_after i l (omega arith))) in
        omega (arith, ap (slot_before bs x) low, ap (slot_before bs x) mid, ap (slot_before bs x) high)

-- ---- the depth

-- as many parts as a reading is kept slots are enough
pub deep_all : (bs : List ℕ) (n h : ℕ) → 0 < h → Deep bs n h h
deep_all bs n h some = (some, λ u. spread_most (slot_load bs n) n h u (load_most bs n))

-- f of the number h before; f 0 where there is none
unfoldable pub trailing : (ℕ → ℕ) → ℕ → ℕ → ℕ
trailing f h x = f (x - h)

trailing_now : (f : ℕ → ℕ) (h x : ℕ) → trailing f h x ≡ f (x - h)
unfolding trailing
trailing_now f h x = refl

trailing_here : (f : ℕ → ℕ) (h x : ℕ) → trailing f h (x + h) ≡ f x
unfolding trailing
trailing_here f h x = let same : x + h - h ≡ x = omega arith in ap f same

trailing_sum : (f : ℕ → ℕ) (h k u : ℕ) → spread (trailing f h) (u + h) k ≡ spread f u k
unfolding spread
trailing_sum f h zero u = refl
trailing_sum f h (suc k) u =
    let same : u + h + 1 ≡ u + 1 + h = omega arith in
    omega (arith, trailing_here f h u, trailing_sum f h k (u + 1), ap (λ y. spread (trailing f h) y k) same)

-- the sum over the h slots before u, the cursors at slot u and at the first of these, and a depth that has room for the h slots before
-- slot u and before each earlier one
pub record Sliding (bs : List ℕ) (n h u enter leave load d : ℕ) : Type 0 where
  pub enters : AtSlot bs u enter
  pub leaves : AtSlot bs (u - h) leave
  pub sum : load ≡ spread (trailing (slot_load bs n) h) u h
  pub some : 0 < d
  pub fit : (y : ℕ) → y ≤ u → spread (trailing (slot_load bs n) h) y h ≤ n * d

module _ (bs : List ℕ) (n t h : ℕ) (ready : DepthReady bs n t h) where
  plan_kept : Accepted bs n t
  plan_kept = accepted bs n t ready.accepted

  sorted : (i k : ℕ) → i + k < records bs → (contact_at bs i).slot ≤ (contact_at bs (i + k)).slot
  sorted = slots_sorted bs n t (units 1 h) ready.accepted

  -- slots that no record is of
  load_outside : (x : ℕ) → (x ≡ 0) ⊎ (t < x) → slot_load bs n x ≡ 0
  unfolding slot_load
  load_outside x out =
      let low : 0 + records bs ≡ records bs = omega arith in
      let none = slot_none bs x in
      let all = slot_none_from bs x (records bs) 0 (λ i l h q. other i (omega arith) q) in
      omega (arith, ap (slot_before bs x) low)
    where
      other : (i : ℕ) → i < records bs → (contact_at bs i).slot ≡ x → ⊥
      other i there q =
          let c = plan_kept.contact i there in
          let first = c.from_one in
          let last = c.to_last in
          ⊎_elim (λ (z : x ≡ 0). omega arith) (λ (z : t < x). omega arith) out

  sum_early : (y : ℕ) → y ≤ 1 → spread (trailing (slot_load bs n) h) y h ≡ 0
  unfolding trailing
  sum_early y first =
      let keeps = ready.keeps in
      spread_zero (trailing (slot_load bs n) h) h y (λ x low high. load_outside (x - h) (inl (omega arith)))

  sum_small : (u : ℕ) → spread (trailing (slot_load bs n) h) u h ≤ 65536
  unfolding trailing
  sum_small u =
      let most = ready.most in
      let room : h ≤ 256 = omega arith in
      omega (
        arith,
        spread_most (trailing (slot_load bs n) h) n h u (λ x. load_most bs n (x - h)),
        mul-le-mul plan_kept.stations room,
      )

  pub sliding_none : Sliding bs n h 1 0 0 0 1
  sliding_none =
      record {
        enters = record {
          inside = omega arith;
          before = λ i low. absurd (omega arith);
          after = λ i low there. (plan_kept.contact i there).from_one;
        };
        leaves = record {
          inside = omega arith;
          before = λ i low. absurd (omega arith);
          after = λ i low there. let keeps = ready.keeps in omega arith;
        };
        sum = sym (sum_early 1 (omega arith));
        some = omega arith;
        fit = λ y first. omega (arith, sum_early y first);
      }

  -- before slot 1 nothing stands
  at_first : (e : ℕ) → AtSlot bs 1 e → AtSlot bs 0 e
  at_first e a =
      record {
        inside = a.inside;
        before = λ i low. let inside = a.inside in omega (arith, a.before i low, (plan_kept.contact i (omega arith)).from_one);
        after = λ i low there. omega arith;
      }

  at_leave : (u e : ℕ) → AtSlot bs (u - h + 1) e → AtSlot bs (u + 1 - h) e
  at_leave u e a =
      by_cases (dec_le h u)
      (λ past. let same : u - h + 1 ≡ u + 1 - h = omega arith in subst (λ x. AtSlot bs x e) same a)
      (λ early.
      let one : u - h + 1 ≡ 1 = omega arith in
      let none : 0 ≡ u + 1 - h = omega arith in
      subst (λ x. AtSlot bs x e) none (at_first e (subst (λ x. AtSlot bs x e) one a)))

  module _ (u enter leave load d entered old left more less : ℕ) (s : Sliding bs n h u enter leave load d)
      (in-run : SlotRecords bs u enter entered) (before : old ≡ u - h) (out-run : SlotRecords bs old leave left)
      (in_load : more ≡ min n (entered - enter)) (out-load : less ≡ min n (left - leave)) where
    out_records : SlotRecords bs (u - h) leave left
    out_records = subst (λ x. SlotRecords bs x leave left) before out-run

    -- the next sum
    slide : spread (trailing (slot_load bs n) h) (u + 1) h + less ≡ load + more
    slide = omega (
      arith,
      s.sum,
      spread_slide (trailing (slot_load bs n) h) h u,
      trailing_here (slot_load bs n) h u,
      trailing_now (slot_load bs n) h u,
      run_load bs n u enter entered s.enters in-run sorted,
      run_load bs n (u - h) leave left s.leaves out_records sorted,
    )

    pub slide_fits : (less ≤ load + more) × (load + more ≤ 66000) × (load + more - less ≤ 65536)
    slide_fits =
        let next = slide in
        let now = sum_small u in
        let then = sum_small (u + 1) in
        let few = plan_kept.stations in
        let sum = s.sum in
        (omega arith, omega arith, omega arith)

    pub sliding_more : (load' d' : ℕ) → load' ≡ load + more - less → d ≤ d' → load' ≤ n * d'
        → Sliding bs n h (u + 1) entered left load' d'
    sliding_more load' d' is deeper room =
        let next = slide in
        let some = s.some in
        record {
          enters = at_next bs n u enter entered s.enters in-run sorted;
          leaves = at_leave u left (at_next bs n (u - h) leave left s.leaves out_records sorted);
          sum = omega arith;
          some = omega arith;
          fit = λ y low. by_cases (ℕ_discrete y (u + 1))
              (λ same. rw same (omega arith))
              (λ o. omega (arith, s.fit y (omega arith), mul-le-mul_left n deeper));
        }

  -- past the last slot the sums do not rise
  sum_past : (k : ℕ) → spread (trailing (slot_load bs n) h) (t + 1 + k) h ≤ spread (trailing (slot_load bs n) h) (t + 1) h
  sum_past zero = let same : t + 1 + 0 ≡ t + 1 = omega arith in rw same (omega arith)
  sum_past (suc k) =
      let same : t + 1 + suc k ≡ t + 1 + k + 1 = omega arith in
      rw same (omega (
        arith,
        sum_past k,
        spread_slide (trailing (slot_load bs n) h) h (t + 1 + k),
        trailing_here (slot_load bs n) h (t + 1 + k),
        load_outside (t + 1 + k) (inr (omega arith)),
      ))

  pub depth_found : (u enter leave load d r : ℕ) → t < u → Sliding bs n h u enter leave load d → r ≡ min h d → Deep bs n h r × (r ≤ h)
  depth_found u enter leave load d r past s is =
      by_cases (dec_le h d)
      (λ less. let same : r ≡ h = omega arith in rw same (deep_all bs n h ready.keeps, omega arith))
      (λ more. let same : r ≡ d = omega arith in rw same ((s.some, fits), omega arith))
    where
      fits : (x : ℕ) → spread (slot_load bs n) x h ≤ n * d
      fits x =
          by_cases (dec_le (x + h) u)
          (λ near. omega (arith, trailing_sum (slot_load bs n) h h x, s.fit (x + h) near))
          (λ far.
          let same : t + 1 + (x + h - (t + 1)) ≡ x + h = omega arith in
          omega (
            arith,
            trailing_sum (slot_load bs n) h h x,
            rw same at (sum_past (x + h - (t + 1))),
            s.fit (t + 1) (omega arith),
          ))
