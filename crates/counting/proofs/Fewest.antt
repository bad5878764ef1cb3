-- The fewest k at which a sequence of numbers is not 0, with 65535 for none; of sums, of a sequence one hop later, and
-- of the walks that end in a test.
-- Assumes nothing.
use Prim.Native.Nat.{ℕ, zero, suc, ◌+◌, ◌≤◌, ◌<◌, min}
use mathlib.Core.Path.{◌≡◌, refl, sym, ap, ◌∙◌}
use mathlib.Core.Bool.{Bool, true, false, cond}
use mathlib.Core.List.{List, []}
use mathlib.Core.Logic.{by_cases}
use native.Mathlib.Omega.{arith}
use native.Mathlib.Decide.{dec_le}
use native.Mathlib.Numerals.{add-one}
use borrow.Author.Tests.{ltb-true, ltb-false}
use lib.Dec.{ltb}
use lib.ListN.{length}
use Rattle.temporal.specs.Plan.{Plan, Appearance}
use Rattle.temporal.specs.Walk.{ends_in}
use Rattle.temporal.specs.Shortest.{of_hops, shortest, hops, count}
use Rattle.lists.proofs.ListLaws.{no_member_empty, length_zero}
use Rattle.walks.proofs.ShortestLaws.{Bounded, Found, nowhere, at_hops, found, hops_empty, hops_least, mem_of_hops_law}
use Rattle.counting.proofs.Weights.{total, everywhere, counts}

-- h is the fewest k at which the sequence N is not 0; 65535 where it is 0 at every k
pub record Fewest (N : ℕ → ℕ) (h : ℕ) : Type 0 where
  pub bound : h ≤ 65535
  pub sooner : (k : ℕ) → k < h → N k ≡ 0
  pub some : h < 65535 → 0 < N h
  pub never : h ≡ 65535 → (k : ℕ) → N k ≡ 0

-- the sum of two sequences
unfoldable pub plus : (ℕ → ℕ) → (ℕ → ℕ) → ℕ → ℕ
plus N M k = N k + M k

-- a sequence one hop later: 0 at 0
unfoldable pub delayed : (ℕ → ℕ) → ℕ → ℕ
delayed N zero = 0
delayed N (suc k) = N k

-- a sequence that is 0 everywhere has no fewest
pub fewest_none : {N : ℕ → ℕ} → ((k : ℕ) → N k ≡ 0) → Fewest N 65535
fewest_none z = record { bound = omega arith; sooner = λ k h. z k; some = λ h. absurd (omega arith); never = λ e. z }

-- a k at which a sequence is not 0, and is 0 before, is the fewest
pub fewest_intro : {N : ℕ → ℕ} {h : ℕ} → h < 65535 → 0 < N h → ((k : ℕ) → k < h → N k ≡ 0) → Fewest N h
fewest_intro g n z = record { bound = omega arith; sooner = z; some = λ h. n; never = λ e. absurd (omega arith) }

-- sequences that agree have the same fewest
pub fewest_ext : {N M : ℕ → ℕ} {h : ℕ} → ((k : ℕ) → N k ≡ M k) → Fewest N h → Fewest M h
fewest_ext {N} {M} {h} e f =
    record {
      bound = f.bound;
      sooner = λ k g. sym (e k) ∙ f.sooner k g;
      some = λ g. rw (← e h) (f.some g);
      never = λ q k. sym (e k) ∙ f.never q k;
    }

-- a sequence that is nowhere greater has no smaller fewest
pub fewest_less : {N M : ℕ → ℕ} {h l : ℕ} → ((k : ℕ) → N k ≤ M k) → Fewest N h → Fewest M l → l ≤ h
fewest_less {N} {M} {h} {l} less f g =
    by_cases (dec_le l h) (λ q. q)
    (λ q. absurd (omega (arith, less h, f.some (omega arith), g.sooner h (omega arith))))

-- a sequence has one fewest
pub fewest_unique : {N : ℕ → ℕ} {h l : ℕ} → Fewest N h → Fewest N l → h ≡ l
fewest_unique f g =
    omega (arith, fewest_less (λ k. omega arith) f g, fewest_less (λ k. omega arith) g f)

-- the fewest of a sum is the smaller of the two
pub fewest_plus : {N M : ℕ → ℕ} {h l : ℕ} → Fewest N h → Fewest M l → Fewest (plus N M) (min h l)
unfolding plus
fewest_plus {N} {M} {h} {l} f g =
    record {
      bound = omega arith;
      sooner = λ k q. omega (arith, f.sooner k (omega arith), g.sooner k (omega arith));
      some = λ q. by_cases (dec_le h l)
          (λ a. let e : min h l ≡ h = omega arith in rw e (omega (arith, f.some (omega arith))))
          (λ a. let e : min h l ≡ l = omega arith in rw e (omega (arith, g.some (omega arith))));
      never = λ q k. omega (arith, f.never (omega arith) k, g.never (omega arith) k);
    }

-- one hop later the fewest is one more
pub fewest_delayed : {N : ℕ → ℕ} {h : ℕ} → Fewest N h → h + 1 < 65535 → Fewest (delayed N) (h + 1)
unfolding delayed
fewest_delayed {N} {h} f g = fewest_intro g (rw add-one (f.some (omega arith))) before
  where
    before : (k : ℕ) → k < h + 1 → delayed N k ≡ 0
    before zero q = refl
    before (suc k) q = f.sooner k (omega arith)

-- one hop later none stays none
pub fewest_delayed_none : {N : ℕ → ℕ} → Fewest N 65535 → Fewest (delayed N) 65535
unfolding delayed
fewest_delayed_none {N} f = fewest_none always
  where
    always : (k : ℕ) → delayed N k ≡ 0
    always zero = refl
    always (suc k) = f.never refl k

-- a sequence that is nowhere greater is 0 before the fewest
pub less_sooner : {M m : ℕ → ℕ} {l : ℕ} → Fewest M l → ((k : ℕ) → m k ≤ M k) → (k : ℕ) → k < l → m k ≡ 0
less_sooner f less k q = omega (arith, less k, f.sooner k q)

-- the sum of two sequences n and m that are nowhere greater than N and M
module _ (n m : ℕ → ℕ) where
  -- at the fewest of N, where that is before the fewest of M, the sum is n
  pub plus_first : {M : ℕ → ℕ} {h l : ℕ} → Fewest M l → ((k : ℕ) → m k ≤ M k) → h < l → plus n m h ≡ n h
  unfolding plus
  plus_first {h = h} f less q = omega (arith, less_sooner f less h q)

  -- at the fewest of M, where that is before the fewest of N, the sum is m
  pub plus_second : {N : ℕ → ℕ} {h l : ℕ} → Fewest N h → ((k : ℕ) → n k ≤ N k) → l < h → plus n m l ≡ m l
  unfolding plus
  plus_second {l = l} f less q = omega (arith, less_sooner f less l q)

  -- at the fewest of the sum of N and M the sum is that of the one with fewer, or of both where they have as many
  pub plus_fewest : {N M : ℕ → ℕ} {h l : ℕ} → Fewest N h → Fewest M l
      → ((k : ℕ) → n k ≤ N k)
      → ((k : ℕ) → m k ≤ M k)
      → plus n m (min h l) ≡ cond (ltb h l) (n h) (cond (ltb l h) (m l) (n h + m l))
  unfolding plus
  plus_fewest {h = h} {l = l} f g left right = go (ltb h l) refl (ltb l h) refl
    where
      go : (b : Bool) → ltb h l ≡ b → (c : Bool) → ltb l h ≡ c
          → plus n m (min h l) ≡ cond b (n h) (cond c (m l) (n h + m l))
      go true q c r =
          let less = ltb-true h l q in
          let e : min h l ≡ h = omega arith in
          rw e (plus_first g right less)
      go false q true r =
          let less = ltb-true l h r in
          let e : min h l ≡ l = omega arith in
          rw e (plus_second f left less)
      go false q false r =
          let one = ltb-false h l q in
          let other = ltb-false l h r in
          let same : h ≡ l = omega arith in
          let e : min h l ≡ l = omega arith in
          rw (e, same)

module _ {p : Plan} {u : List ℕ → Bool} (b : Bounded p u) where
  -- where no list passes, none of k positions does
  no_hops : ((w : List ℕ) → u w ≡ true → ⊥) → (k : ℕ) → of_hops p u k ≡ []
  no_hops n k = no_member_empty (of_hops p u k) (λ w m. n w ((mem_of_hops_law p u k).0 m).2)

  -- the shortest lists are those of as many positions as the shortest have
  pub shortest_of_hops_law : shortest p u ≡ of_hops p u (hops (shortest p u))
  shortest_of_hops_law = go (found b)
    where
      go : Found p u → shortest p u ≡ of_hops p u (hops (shortest p u))
      go (nowhere e n) = e ∙ sym (no_hops n (hops (shortest p u)))
      go (at_hops k h e) = e ∙ ap (of_hops p u) (sym (hops_least h))

  -- the hops of the shortest lists are the fewest of the counts
  fewest_of_hops_law : p.slots < 65535 → Fewest (λ k. count (of_hops p u k)) (hops (shortest p u))
  fewest_of_hops_law g = go (found b)
    where
      go : Found p u → Fewest (λ k. count (of_hops p u k)) (hops (shortest p u))
      go (nowhere e n) = rw (hops_empty (shortest p u) e) (fewest_none (λ k. ap length (no_hops n k)))
      go (at_hops k h e) =
          let fits = h.fits in
          let some_walk : count (of_hops p u k) ≡ 0 → ⊥ = λ z. h.some ((length_zero (of_hops p u k)).0 z) in
          rw (hops_least h)
          (fewest_intro (omega arith) (omega arith) (λ j q. ap length (h.sooner j q)))

module _ (p : Plan) (x : Appearance) (t : Appearance → Bool) (b : Bounded p (ends_in p x t)) where
  -- the hops of the shortest walks that end in a test are the fewest hops at which the total is not 0
  pub fewest_shortest : p.slots < 65535
      → Fewest (total p everywhere x (λ y. cond (t y) 1 0)) (hops (shortest p (ends_in p x t)))
  fewest_shortest g = fewest_ext (counts p t x) (fewest_of_hops_law b g)

  -- the shortest walks that end in a test are as many as the total at their hops
  pub count_shortest : count (shortest p (ends_in p x t))
      ≡ total p everywhere x (λ y. cond (t y) 1 0) (hops (shortest p (ends_in p x t)))
  count_shortest = ap length (shortest_of_hops_law b) ∙ counts p t x (hops (shortest p (ends_in p x t)))

  -- there is no such walk where the hops are 65535
  pub count_none : p.slots < 65535 → hops (shortest p (ends_in p x t)) ≡ 65535 → count (shortest p (ends_in p x t)) ≡ 0
  count_none g e = count_shortest ∙ (fewest_shortest g).never e (hops (shortest p (ends_in p x t)))
