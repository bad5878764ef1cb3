-- A walk that comes back to its source, or visits its destination before its end, can be cut short: the first leg may use any slot.
-- This holds however long a reading is kept.
-- Assumes nothing.
use Prim.Native.Nat.{ℕ, suc, ◌+◌, ◌≤◌, ◌<◌}
use mathlib.Core.Bool.{Bool, true}
use mathlib.Core.List.{List, [], ◌∷◌}
use mathlib.Core.List.{Memᴰ}
use mathlib.Core.Logic.{⊎_elim}
use mathlib.Core.Option.{some}
use mathlib.Core.Path.{◌≡◌, sym, ap, ◌∙◌}
use native.Mathlib.Omega.{arith}
use lib.ListN.{length}
use Rattle.temporal.specs.Plan.{Plan, Appearance, start, leads_to}
use Rattle.temporal.specs.Walk.{step, run, last_or, stations_of, ends_in}
use Rattle.temporal.specs.Definition3.{starting_points}
use Rattle.walks.proofs.RuleLaws.{follows_later, follows_start}
use Rattle.walks.proofs.WalkLaws.{StepBy, step_inv, step_intro, run_nil, run_cons, run_slots}
use Rattle.walks.proofs.WalkLaws.{ends_intro, ends_nil, ends_step, ends_after}
use Rattle.walks.proofs.PathLaws.{Shorter}

module _ (p : Plan) where
  -- a step from an appearance of s is one from the start of s
  pub step_from_start :
      (s : ℕ) (x : Appearance) (i : ℕ) {y : Appearance} → x.station ≡ s → step p x i ≡ some y → step p (start s) i ≡ some y
  step_from_start s x i {y} here e = step_intro p (start s) i (again (step_inv p x i e))
    where
      again : StepBy p x i y → StepBy p (start s) i y
      again b =
          let later = follows_later p x.slot b.contact.slot b.follows in
          record {
            contact = b.contact;
            at_position = b.at_position;
            same_slot_law = b.same_slot_law;
            follows = follows_start p b.contact.slot (omega arith);
            leads = ap (leads_to b.contact) (sym here) ∙ b.leads;
          }

-- Walks that end in a test which an earlier appearance passes wherever a later one of its station does.
module _ (p : Plan) (t : Appearance → Bool)
    (sooner : (x x' : Appearance) → x'.station ≡ x.station → x'.slot ≤ x.slot → t x ≡ true → t x' ≡ true) where
  -- such a walk from an appearance of s is one from the start of s
  pub ends_from_start :
      (s : ℕ) (x : Appearance) (w : List ℕ) → x.station ≡ s → ends_in p x t w ≡ true → ends_in p (start s) t w ≡ true
  ends_from_start s x [] here e =
      ends_nil p (start s) t ∙ sooner x (start s) (sym here) (omega arith) (sym (ends_nil p x t) ∙ e)
  ends_from_start s x (i ∷ w) here e =
      let (y, steps, rest) = ends_step p x t i w e in
      ends_after p (start s) t i w (step_from_start p s x i here steps) rest

  -- where such a walk comes to s, what follows that visit is a shorter one from the start of s
  pub start_over :
      (s : ℕ) (x : Appearance) (w : List ℕ) {l : List Appearance} → run p x w ≡ some l → t (last_or x l) ≡ true →
      Memᴰ s (stations_of l) → Shorter p (start s) t w
  unfolding last_or
  start_over s x [] e q m = absurd (mathlib.Core.List.Memᴰ.not-nil (rw (← run_nil p x e) at m))
  start_over s x (i ∷ w) e q m =
      let r = run_cons p x i w e in
      let at_end : t (last_or r.next r.others) ≡ true = rw (← r.whole) at q in
      let visited : Memᴰ s (stations_of (r.next ∷ r.others)) = rw (← r.whole) at m in
      let further = start_over s r.next w r.goes_on at_end in
      ⊎_elim
      (λ (same : s ≡ r.next.station).
      record {
        walk = w;
        ends = ends_from_start s r.next w (sym same) (ends_intro p r.next t w r.goes_on at_end);
        fewer = omega arith;
      })
      (λ m'. let k = further m' in record { walk = k.walk; ends = k.ends; fewer = longer k.fewer })
      (mathlib.Core.List.Memᴰ.cases_cons visited)
    where
      longer : {a b : ℕ} → a < b → a < suc b
      longer h = omega arith

  -- where such a walk is at the station of its end before its end, what lies before that is a shorter one
  pub cut_short :
      (x : Appearance) (w : List ℕ) {l : List Appearance} → run p x w ≡ some l → t (last_or x l) ≡ true →
      Memᴰ (last_or x l).station (starting_points x l) → Shorter p x t w
  unfolding starting_points last_or
  cut_short x [] e q m = absurd (mathlib.Core.List.Memᴰ.not-nil (rw (← run_nil p x e) at m))
  cut_short x (i ∷ w) {l} e q m =
      let r = run_cons p x i w e in
      let at_end : t (last_or r.next r.others) ≡ true = rw (← r.whole) at q in
      let further = cut_short r.next w r.goes_on at_end in
      let slots = run_slots p x (i ∷ w) e in
      ⊎_elim
      (λ (same : (last_or r.next r.others).station ≡ x.station).
      record {
        walk = [];
        ends = ends_nil p x t ∙ sooner (last_or r.next r.others) x (sym same) (rw (← r.whole) at (earlier slots)) at_end;
        fewer = omega arith;
      })
      (λ m'. let k = further m' in
      record { walk = i ∷ k.walk; ends = ends_after p x t i k.walk r.steps k.ends; fewer = one_more k.fewer })
      (mathlib.Core.List.Memᴰ.cases_cons (rw (← r.whole) at m))
    where
      earlier : x.slot + suc (length w) ≤ (last_or x l).slot → x.slot ≤ (last_or x l).slot
      earlier h = omega arith

      one_more : {a b : ℕ} → a < b → suc a < suc b
      one_more h = omega arith
