-- A sequence of numbers of walks by hops that stands for another as far as settled hops reach: what waits may lack walks with more hops than
-- are settled. Assumes nothing.
use Rattle.std.proofs.Common.{◌≡◌, ℕ, zero, suc, ◌+◌, ◌<◌, ◌≤◌, min, Bool, false, cond, ◌⊎◌, sym, refl, ap, ◌∙◌, inl, inr, ⊎_elim, arith}
use native.Mathlib.Decide.{ℕ_discrete}
use mathlib.Core.Logic.{by_cases}
use Rattle.counting.proofs.Fewest.{Fewest, plus}
use Rattle.entries.specs.Entry.{stored}
use Rattle.pass.specs.Column.{Lanes}
use Rattle.pass.proofs.BestLaws.{Best, best_same, best_empty, best_limit, entry_same}

-- k hops are at most b; 65535 hops are no bound
abbrev pub Reaches : ℕ → ℕ → Type 0
Reaches b k = (k ≤ b) ⊎ (65535 ≤ b)

-- N', with M' by column, stands for N and M up to b hops: where N has no walks of fewer hops they agree
pub record Near (b : ℕ) (N' : ℕ → ℕ) (M' : ℕ → ℕ → ℕ) (N : ℕ → ℕ) (M : ℕ → ℕ → ℕ) : Type 0 where
  pub counts : (k : ℕ) → Reaches b k → ((i : ℕ) → i < k → N i ≡ 0) → N' k ≡ N k
  pub avoiding : (j k : ℕ) → Reaches b k → ((i : ℕ) → i < k → N i ≡ 0) → M' j k ≡ M j k

pub near_refl : {b : ℕ} {N : ℕ → ℕ} {M : ℕ → ℕ → ℕ} → Near b N M N M
near_refl = record { counts = λ k r z. refl; avoiding = λ j k r z. refl }

-- for sequences that agree
pub near_ext : {b : ℕ} {N' N X : ℕ → ℕ} {M' M Y : ℕ → ℕ → ℕ} → ((k : ℕ) → N k ≡ X k) → ((j k : ℕ) → M j k ≡ Y j k)
    → Near b N' M' N M → Near b N' M' X Y
near_ext e f x =
    record {
      counts = λ k r z. x.counts k r (λ i h. e i ∙ z i h) ∙ e k;
      avoiding = λ j k r z. x.avoiding j k r (λ i h. e i ∙ z i h) ∙ f j k;
    }

-- up to fewer hops
pub near_less : {b b' : ℕ} {N' N : ℕ → ℕ} {M' M : ℕ → ℕ → ℕ} → b' ≤ b → Near b N' M' N M → Near b' N' M' N M
near_less {b} {b'} less x = record { counts = λ k r. x.counts k (up k r); avoiding = λ j k r. x.avoiding j k (up k r) }
  where
    up : (k : ℕ) → Reaches b' k → Reaches b k
    up k r = ⊎_elim (λ (h : k ≤ b'). inl (omega arith)) (λ (h : 65535 ≤ b'). inr (omega arith)) r

-- the same walks beside both
pub near_plus : {b : ℕ} (W : ℕ → ℕ) (P : ℕ → ℕ → ℕ) {N' N : ℕ → ℕ} {M' M : ℕ → ℕ → ℕ} → Near b N' M' N M
    → Near b (plus W N') (λ j. plus (P j) (M' j)) (plus W N) (λ j. plus (P j) (M j))
unfolding plus
near_plus W P x =
    record {
      counts = λ k r z. ap (λ y. W k + y) (x.counts k r (λ i h. omega (arith, z i h)));
      avoiding = λ j k r z. ap (λ y. P j k + y) (x.avoiding j k r (λ i h. omega (arith, z i h)));
    }

pub near_add : {b : ℕ} (W : ℕ → ℕ) (P : ℕ → ℕ → ℕ) {N' N : ℕ → ℕ} {M' M : ℕ → ℕ → ℕ} → Near b N' M' N M
    → Near b (plus N' W) (λ j. plus (M' j) (P j)) (plus N W) (λ j. plus (M j) (P j))
unfolding plus
near_add W P x =
    record {
      counts = λ k r z. ap (λ y. y + W k) (x.counts k r (λ i h. omega (arith, z i h)));
      avoiding = λ j k r z. ap (λ y. y + P j k) (x.avoiding j k r (λ i h. omega (arith, z i h)));
    }

-- walks of more hops than b beside one
pub near_more : {b : ℕ} (W : ℕ → ℕ) (P : ℕ → ℕ → ℕ) {N' N : ℕ → ℕ} {M' M : ℕ → ℕ → ℕ} → b < 65535 → ((k : ℕ) → k ≤ b → W k ≡ 0)
    → ((j k : ℕ) → P j k ≤ W k) → Near b N' M' N M → Near b N' M' (plus N W) (λ j. plus (M j) (P j))
unfolding plus
near_more {b} W P few none less x =
    record {
      counts = λ k r z. let h = low k r in let e = none k h in
          omega (arith, x.counts k r (λ i q. omega (arith, z i q)));
      avoiding = λ j k r z. let h = low k r in let e = none k h in let l = less j k in
          omega (arith, x.avoiding j k r (λ i q. omega (arith, z i q)));
    }
  where
    low : (k : ℕ) → Reaches b k → k ≤ b
    low k r = ⊎_elim (λ (h : k ≤ b). h) (λ (h : 65535 ≤ b). absurd (omega arith)) r

-- the columns of a test alone
pub near_chosen : {b : ℕ} (may : ℕ → Bool) {N' N : ℕ → ℕ} {M' M : ℕ → ℕ → ℕ} → Near b N' M' N M
    → Near b N' (λ j k. cond (may j) (M' j k) 0) N (λ j k. cond (may j) (M j k) 0)
near_chosen may x =
    record { counts = x.counts; avoiding = λ j k r z. ap (λ y. cond (may j) y 0) (x.avoiding j k r z) }

module _ {b : ℕ} {N' N : ℕ → ℕ} {M' M : ℕ → ℕ → ℕ} (x : Near b N' M' N M) where
  -- no walks before the fewest hops
  none_before : {h : ℕ} → Fewest N' h → Reaches b h → (k : ℕ) → k ≤ h → (i : ℕ) → i < k → N i ≡ 0
  none_before f r zero low i h = absurd (omega arith)
  none_before {h} f r (suc k) low i inside =
      by_cases (ℕ_discrete i k)
      (λ same. rw same (sym (x.counts k (⊎_elim (λ (q : h ≤ b). inl (omega arith)) inr r) (none_before f r k (omega arith)))
      ∙ f.sooner k (omega arith)))
      (λ d. none_before f r k (omega arith) i (omega arith))

  none_ever : ((k : ℕ) → N' k ≡ 0) → 65535 ≤ b → (k i : ℕ) → i < k → N i ≡ 0
  none_ever z r zero i h = absurd (omega arith)
  none_ever z r (suc k) i h =
      by_cases (ℕ_discrete i k)
      (λ same. rw same (sym (x.counts k (inr r) (none_ever z r k)) ∙ z k))
      (λ d. none_ever z r k i (omega arith))

  -- where the one has no walks up to b hops, the other has none
  none_up : ((k : ℕ) → k ≤ b → N' k ≡ 0) → (k : ℕ) → k ≤ b + 1 → (i : ℕ) → i < k → N i ≡ 0
  none_up z zero low i h = absurd (omega arith)
  none_up z (suc k) low i h =
      by_cases (ℕ_discrete i k)
      (λ same. rw same (sym (x.counts k (inl (omega arith)) (none_up z k (omega arith))) ∙ z k (omega arith)))
      (λ d. none_up z k (omega arith) i (omega arith))

  pub near_none : ((k : ℕ) → k ≤ b → N' k ≡ 0) → (k : ℕ) → k ≤ b → N k ≡ 0
  near_none z k h = none_up z (k + 1) (omega arith) k (omega arith)

  -- the entry of the one is the entry of the other, where its hops are at most b
  pub near_best : {lay : Lanes} {block limit h c : ℕ} {r : ℕ → ℕ} → h ≤ b → Best lay block limit N' M' h c r → Best lay block limit N M h c r
  near_best {lay} {block} {limit} {h} {c} reach best =
      record {
        entry = record {
          fewest = record {
            bound = f.bound;
            sooner = none_before f (inl reach) h (omega arith);
            some = λ q. rw (← here) (f.some q);
            never = λ top k. none_ever (f.never top) (omega arith) (suc k) k (omega arith);
          };
          count = best.entry.count ∙ ap stored here;
        };
        row = λ e i g. best.row e i g ∙ entry_same lay M' M h h e (λ j. x.avoiding j h (inl reach) (none_before f (inl reach) h (omega arith)));
      }
    where
      f : Fewest N' h
      f = best.entry.fewest

      here : N' h ≡ N h
      here = x.counts h (inl reach) (none_before f (inl reach) h (omega arith))

-- What waits is the best of sequences, held, that stand for N and M up to the settled hops b, and have no more walks. They are N itself where
-- cause 9 is not known.
pub record HeldBy (known : Bool) (lay : Lanes) (block b : ℕ) (N : ℕ → ℕ) (M : ℕ → ℕ → ℕ) (h c : ℕ) (r : ℕ → ℕ) : Type 0 where
  pub held : ℕ → ℕ
  pub held_avoiding : ℕ → ℕ → ℕ
  pub less : (j k : ℕ) → held_avoiding j k ≤ held k
  pub fewer : (k : ℕ) → held k ≤ N k
  pub near : Near b held held_avoiding N M
  pub exact : known ≡ false → (k : ℕ) → held k ≡ N k
  pub best : Best lay block (min 65535 (b + 1)) held held_avoiding h c r

module _ {known : Bool} {lay : Lanes} {block b : ℕ} where
  -- the sequences themselves
  pub held_all : {N : ℕ → ℕ} {M : ℕ → ℕ → ℕ} {h c : ℕ} {r : ℕ → ℕ} → ((j k : ℕ) → M j k ≤ N k)
      → Best lay block (min 65535 (b + 1)) N M h c r → HeldBy known lay block b N M h c r
  held_all {N} {M} less best =
      record {
        held = N;
        held_avoiding = M;
        less = less;
        fewer = λ k. omega arith;
        near = near_refl;
        exact = λ e k. refl;
        best = best;
      }

  -- for sequences that agree
  pub held_ext : {N X : ℕ → ℕ} {M Y : ℕ → ℕ → ℕ} {h c : ℕ} {r : ℕ → ℕ} → ((k : ℕ) → N k ≡ X k) → ((j k : ℕ) → M j k ≡ Y j k)
      → HeldBy known lay block b N M h c r → HeldBy known lay block b X Y h c r
  held_ext e f x =
      record {
        held = x.held;
        held_avoiding = x.held_avoiding;
        less = x.less;
        fewer = λ k. omega (arith, x.fewer k, e k);
        near = near_ext e f x.near;
        exact = λ o k. x.exact o k ∙ e k;
        best = x.best;
      }

  -- entries that agree
  pub held_same : {N : ℕ → ℕ} {M : ℕ → ℕ → ℕ} {h c h' c' : ℕ} {r r' : ℕ → ℕ} → h' ≡ h → c' ≡ c
      → ((j : ℕ) → j < block → h < min 65535 (b + 1) → r' j ≡ r j)
      → HeldBy known lay block b N M h c r → HeldBy known lay block b N M h' c' r'
  held_same eh ec er x =
      record {
        held = x.held;
        held_avoiding = x.held_avoiding;
        less = x.less;
        fewer = x.fewer;
        near = x.near;
        exact = x.exact;
        best = best_same eh ec er x.best;
      }

  -- settled hops fall
  pub held_less : {b' : ℕ} {N : ℕ → ℕ} {M : ℕ → ℕ → ℕ} {h c : ℕ} {r : ℕ → ℕ} → b' ≤ b
      → HeldBy known lay block b N M h c r → HeldBy known lay block b' N M h c r
  held_less lower x =
      record {
        held = x.held;
        held_avoiding = x.held_avoiding;
        less = x.less;
        fewer = x.fewer;
        near = near_less lower x.near;
        exact = x.exact;
        best = best_limit (omega arith) x.best;
      }

  -- of no walks: an entry of no walks is one of any other sequences of no walks
  pub held_empty : {N X : ℕ → ℕ} {M Y : ℕ → ℕ → ℕ} {h c : ℕ} {r : ℕ → ℕ} → ((k : ℕ) → N k ≡ 0) → ((k : ℕ) → X k ≡ 0)
      → ((j k : ℕ) → Y j k ≤ X k) → HeldBy known lay block b N M h c r → HeldBy known lay block b X Y h c r
  held_empty none none' less x =
      let nothing : (k : ℕ) → x.held k ≡ 0 = λ k. omega (arith, x.fewer k, none k) in
      held_all less (best_empty (omega arith) nothing none' x.best)
