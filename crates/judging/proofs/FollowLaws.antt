-- Whether a way follows another, from how far they are alike, the leg there and the legs behind it. Assumes nothing.
use Prim.Native.Nat.{ℕ, suc, ◌+◌, ◌≤◌, ◌<◌}
use mathlib.Core.Path.{◌≡◌, refl, sym, ap, ◌∙◌, subst}
use mathlib.Core.Bool.{Bool, true, false}
use mathlib.Core.List.{List, [], ◌∷◌, ◌++◌}
use mathlib.Core.Logic.{by_cases}
use native.Mathlib.Omega.{arith}
use native.Mathlib.Decide.{ℕ_discrete, dec_lt}
use native.Mathlib.Numerals.{add-one}
use lib.ListN.{length, get_or, take}
use lib.Seq.{take-suc, get_or-take}
use Rattle.lists.proofs.ListLaws.{not_both}
use Rattle.judging.specs.Legs.{FirstLegs, LastLegs, Follows}
use Rattle.judging.specs.Judge.{Tells, FirstBehind, Alike}

module _ (t : List ℕ → Bool) (h : ℕ) (a b : List ℕ) where
  -- the leg at which b follows a is the first where they differ
  the_leg : (j : ℕ) → Alike h a b j → (f : Follows t h a b) → f.leg ≡ j
  the_leg j same f =
      by_cases (dec_lt f.leg j)
      (λ less.
      let here : get_or a f.leg 0 ≡ get_or b f.leg 0 =
      sym (get_or-take j a f.leg 0 less) ∙ ap (λ l. get_or l f.leg 0) same.alike ∙ get_or-take j b f.leg 0 less in
      let up = f.later in
      absurd (omega arith))
      (λ no_less. by_cases (ℕ_discrete f.leg j) (λ e. e)
      (λ other.
      let less : j < f.leg = omega arith in
      let inside = f.inside in
      let here : get_or a j 0 ≡ get_or b j 0 =
      sym (get_or-take f.leg a j 0 less) ∙ ap (λ l. get_or l j 0) f.alike ∙ get_or-take f.leg b j 0 less in
      absurd (same.differ (omega arith) here)))

  -- they do not differ
  pub no_leg : (j : ℕ) → Alike h a b j → h ≤ j → Tells false (Follows t h a b)
  no_leg j same past =
      record {
        yes = λ e. absurd (not_both e refl);
        no = λ e f. let inside = f.inside in omega (arith, the_leg j same f);
      }

  module _ (j : ℕ) where
    -- a leg of a behind is not the last
    pub not_last : Alike h a b j → j < h → (LastLegs t h (j + 1) a → ⊥) → Tells false (Follows t h a b)
    not_last same inside some-later =
        record {
          yes = λ e. absurd (not_both e refl);
          no = λ e f.
              some-later
              (subst (λ k. LastLegs t h k a) (ap suc (the_leg j same f) ∙ sym (add-one j)) f.lasts);
        }

    module _ (room-a : h ≤ length a) (room-b : h ≤ length b) (same : Alike h a b j) (inside : j < h) where
      -- the leg of b is not the next
      pub not_next : (FirstBehind t (take j a) (get_or a j 0 + 1) (get_or b j 0) → ⊥) → Tells false (Follows t h a b)
      not_next other =
          record {
            yes = λ e. absurd (not_both e refl);
            no = λ e f.
                let leg = the_leg j same f in
                let up : get_or a j 0 < get_or b j 0 = subst (λ k. get_or a k 0 < get_or b k 0) leg f.later in
                let there : t (take (suc j) b) ≡ true = subst (λ k. t (take (suc k) b) ≡ true) leg f.serves in
                let split : take (suc j) b ≡ take j a ++ get_or b j 0 ∷ [] =
                take-suc b j 0 (omega arith) ∙ ap (λ l. l ++ get_or b j 0 ∷ []) (sym same.alike) in
                other
                (record {
                  low = omega arith;
                  serves = rw (← split) there;
                  first = λ m low serves.
                      subst (λ k. (i : ℕ) → get_or a k 0 < i → t (take k a ++ i ∷ []) ≡ true → get_or b k 0 ≤ i) leg f.between m
                      (omega arith) serves;
                });
          }

      -- it is, and what is left is whether the legs of b behind it are the first ones
      pub follows_there :
          FirstBehind t (take j a) (get_or a j 0 + 1) (get_or b j 0) → LastLegs t h (j + 1) a → (r : Bool) →
          Tells r (FirstLegs t h (j + 1) b) → Tells r (Follows t h a b)
      follows_there next lasts r firsts =
          record {
            yes = λ e.
                record {
                  leg = j;
                  inside = inside;
                  alike = same.alike;
                  later = let low = next.low in omega arith;
                  serves =
                      rw (take-suc b j 0 (omega arith)) (subst (λ l. t (l ++ get_or b j 0 ∷ []) ≡ true) same.alike next.serves);
                  between = λ m more serves. next.first m (omega arith) serves;
                  lasts = subst (λ k. LastLegs t h k a) (add-one j) lasts;
                  firsts = subst (λ k. FirstLegs t h k b) (add-one j) (firsts.yes e);
                };
            no = λ e f.
                firsts.no e
                (subst (λ k. FirstLegs t h k b) (ap suc (the_leg j same f) ∙ sym (add-one j)) f.firsts);
          }
