-- Laws of specs/Shortest.antt for any test on lists of positions: which lists are the shortest, and how the shortest of
-- several tests belong together.
-- Assumes nothing.
use Prim.Native.Nat.{ℕ, zero, suc, ◌+◌, ◌≤◌, ◌<◌}
use mathlib.Core.Path.{◌≡◌, refl, sym, ap, ◌∙◌, fun_ext}
use mathlib.Core.Bool.{Bool, true, false, cond}
use mathlib.Core.List.Memᴰ
use mathlib.Core.List.{List, [], ◌∷◌, map, Memᴰ}
use mathlib.Core.Logic.{◌⊎◌, inl, inr, ⊎_elim, ◌↔◌, by_cases}
use native.Mathlib.Omega.{arith}
use native.Mathlib.Decide.{ℕ_discrete, dec_le}
use lib.Dec.{eqb}
use lib.ListN.{length}
use borrow.Author.Tests.{eq-eqb, ne_eqb}
use Rattle.temporal.specs.Lists.{from, below, sum, tuples, Rising}
use Rattle.temporal.specs.Plan.{Plan}
use Rattle.temporal.specs.Shortest.{or_else, first_nonempty, of_hops, shortest, hops, count}
use Rattle.lists.proofs.ListLaws.{true_or_false, not_both, not_true_false, mem_below, mem_select, mem_tuples}
use Rattle.lists.proofs.ListLaws.{empty_or_member, member_not_empty, no_member_empty, length_zero}
use Rattle.lists.proofs.ListLaws.{select_ext, rising_select, rising_tuples, length_select}
use Rattle.lists.proofs.ListLaws.{sum_zero, sum_member, sum_ext, sum_exchange}

-- Every list that passes t has at most as many positions as p has slots, and each is the position of a contact of p.
pub record Bounded (p : Plan) (t : List ℕ → Bool) : Type 0 where
  pub within : (w : List ℕ)
      → t w ≡ true
      → (length w ≤ p.slots) × ((i : ℕ) → Memᴰ i w → i < length p.contacts)

-- a test that implies a bounded one is bounded
pub bounded_implies : {p : Plan} {t u : List ℕ → Bool} → Bounded p u → ((w : List ℕ) → t w ≡ true → u w ≡ true)
    → Bounded p t
bounded_implies b i = record { within = λ w q. b.within w (i w q) }

-- the members of of_hops are the lists of k positions of the plan that pass
pub mem_of_hops_law : (p : Plan) (t : List ℕ → Bool) (k : ℕ) {w : List ℕ}
    → Memᴰ w (of_hops p t k)
    ↔ ((length w ≡ k) × ((i : ℕ) → Memᴰ i w → i < length p.contacts) × (t w ≡ true))
unfolding of_hops
mem_of_hops_law p t k =
    let m = length p.contacts in (
      λ h. let a = (mem_select t (tuples m k)).0 h in let b = (mem_tuples m k).0 a.0 in (b.0, b.1, a.1),
      λ h. (mem_select t (tuples m k)).1 ((mem_tuples m k).1 (h.0, h.1), h.2),
    )

-- for a bounded test they are the lists of k numbers that pass
pub mem_of_hops_bounded_law : {p : Plan} {t : List ℕ → Bool} → Bounded p t → (k : ℕ) {w : List ℕ}
    → Memᴰ w (of_hops p t k) ↔ ((length w ≡ k) × (t w ≡ true))
mem_of_hops_bounded_law {p} {t} b k {w} = (
  λ m. let h = (mem_of_hops_law p t k).0 m in (h.0, h.2),
  λ h. (mem_of_hops_law p t k).1 (h.0, (b.within w h.1).1, h.1),
)

-- of_hops rises
pub rising_of_hops_law : (p : Plan) (t : List ℕ → Bool) (k : ℕ) → Rising (of_hops p t k)
unfolding of_hops
rising_of_hops_law p t k = rising_select t (tuples (length p.contacts) k) (rising_tuples (length p.contacts) k)

-- a test that implies another has no list of k positions where the other has none
pub implied_empty : (p : Plan) {t u : List ℕ → Bool} → ((w : List ℕ) → t w ≡ true → u w ≡ true) → (k : ℕ)
    → of_hops p u k ≡ []
    → of_hops p t k ≡ []
implied_empty p {t} {u} i k e =
    no_member_empty (of_hops p t k) (λ w m.
    let r = (mem_of_hops_law p t k).0 m in
    member_not_empty ((mem_of_hops_law p u k).1 (r.0, r.1, i w r.2)) e)

-- a list that is not empty comes before any other
or_else_first_law : (l m : List (List ℕ)) → (l ≡ [] → ⊥) → or_else l m ≡ l
unfolding or_else
or_else_first_law [] m n = absurd (n refl)
or_else_first_law (w ∷ l) m n = refl

-- the first that is not empty is f k where f k is not and f is empty before
first_at : (f : ℕ → List (List ℕ)) (i n k : ℕ) → i ≤ k → k < i + n → ((j : ℕ) → j < k → f j ≡ []) → (f k ≡ [] → ⊥)
    → first_nonempty f (from i n) ≡ f k
unfolding first_nonempty from or_else
first_at f i zero k g h e s = absurd (omega arith)
first_at f i (suc n) k g h e s =
    by_cases (ℕ_discrete i k)
    (λ q. rw (ap f q) (or_else_first_law (f k) (first_nonempty f (from (suc i) n)) s))
    (λ d. rw (e i (omega arith)) (first_at f (suc i) n k (omega arith) (omega arith) e s))

-- k is the least number of hops of the lists that pass: some has k hops, none has fewer.
pub record Least (p : Plan) (t : List ℕ → Bool) (k : ℕ) : Type 0 where
  pub fits : k ≤ p.slots
  pub some : of_hops p t k ≡ [] → ⊥
  pub sooner : (j : ℕ) → j < k → of_hops p t j ≡ []

-- the lists of the least number of hops are the shortest
pub shortest_at : {p : Plan} {t : List ℕ → Bool} {k : ℕ} → Least p t k → shortest p t ≡ of_hops p t k
unfolding shortest below
shortest_at {p} {t} {k} h =
    first_at (of_hops p t) 0 (p.slots + 1) k (omega arith) (omega arith) h.sooner h.some

-- where f is empty at each number of a list, so is its first that is not empty
first_none : (f : ℕ → List (List ℕ)) (l : List ℕ) → ((k : ℕ) → Memᴰ k l → f k ≡ []) → first_nonempty f l ≡ []
unfolding first_nonempty or_else
first_none f [] h = refl
first_none f (k ∷ l) h = rw (h k (Memᴰ.head refl)) (first_none f l (λ j m. h j (Memᴰ.tail m)))

-- where no number of hops has a list that passes, there is no shortest one
pub shortest_none : (p : Plan) (t : List ℕ → Bool) → ((k : ℕ) → k ≤ p.slots → of_hops p t k ≡ []) → shortest p t ≡ []
unfolding shortest
shortest_none p t h =
    first_none (of_hops p t) (below (p.slots + 1)) (λ k m.
    let b = (mem_below (p.slots + 1)).0 m in
    h k (omega arith))

-- where no list passes, there is no shortest one
pub shortest_fails : (p : Plan) (t : List ℕ → Bool) → ((w : List ℕ) → t w ≡ true → ⊥) → shortest p t ≡ []
shortest_fails p t n =
    shortest_none p t (λ k h. no_member_empty (of_hops p t k) (λ w m. n w ((mem_of_hops_law p t k).0 m).2))

-- no list of fewer than n hops passes, or there is a least number of hops
least_below : (p : Plan) (t : List ℕ → Bool) (n : ℕ) → n ≤ p.slots + 1
    → ((j : ℕ) → j < n → of_hops p t j ≡ []) ⊎ ((k : ℕ) × Least p t k)
least_below p t zero g = inl (λ j h. absurd (omega arith))
least_below p t (suc n) g = step (least_below p t n (omega arith)) (empty_or_member (of_hops p t n))
  where
    step : ((j : ℕ) → j < n → of_hops p t j ≡ []) ⊎ ((k : ℕ) × Least p t k)
        → (of_hops p t n ≡ []) ⊎ ((w : List ℕ) × Memᴰ w (of_hops p t n))
        → ((j : ℕ) → j < suc n → of_hops p t j ≡ []) ⊎ ((k : ℕ) × Least p t k)
    step (inr r) c = inr r
    step (inl e) (inl q) =
        inl (λ j h. by_cases (ℕ_discrete j n) (λ d. ap (of_hops p t) d ∙ q) (λ d. e j (omega arith)))
    step (inl e) (inr m) = inr (n, record { fits = omega arith; some = member_not_empty m.1; sooner = e })

-- Either no list passes, and there is no shortest one, or there is a least number of hops, and its lists are the
-- shortest.
pub data Found (p : Plan) (t : List ℕ → Bool) : Type 0 where
  nowhere : shortest p t ≡ [] → ((w : List ℕ) → t w ≡ true → ⊥) → Found p t
  at_hops : (k : ℕ) → Least p t k → shortest p t ≡ of_hops p t k → Found p t

-- one of the two holds of a bounded test
pub found : {p : Plan} {t : List ℕ → Bool} → Bounded p t → Found p t
found {p} {t} b = step (least_below p t (p.slots + 1) (omega arith))
  where
    step : ((j : ℕ) → j < p.slots + 1 → of_hops p t j ≡ []) ⊎ ((k : ℕ) × Least p t k) → Found p t
    step (inl e) =
        nowhere (shortest_none p t (λ k h. e k (omega arith))) (λ w q.
        let h = b.within w q in
        member_not_empty ((mem_of_hops_bounded_law b (length w)).1 (refl, q)) (e (length w) (omega arith)))
    step (inr r) = at_hops r.0 r.1 (shortest_at r.1)

-- the shortest lists rise
pub shortest_rising : (p : Plan) (t : List ℕ → Bool) → Rising (shortest p t)
unfolding Rising
shortest_rising p t = step (least_below p t (p.slots + 1) (omega arith))
  where
    step : ((j : ℕ) → j < p.slots + 1 → of_hops p t j ≡ []) ⊎ ((k : ℕ) × Least p t k) → Rising (shortest p t)
    step (inl e) = rw (shortest_none p t (λ k h. e k (omega arith))) tt
    step (inr r) = rw (shortest_at r.1) (rising_of_hops_law p t r.0)

-- two tests that agree have the same shortest lists
pub shortest_ext : (p : Plan) {t u : List ℕ → Bool} → ((w : List ℕ) → t w ≡ u w) → shortest p t ≡ shortest p u
shortest_ext p h = ap (shortest p) (fun_ext h)

-- a count is 0 for the empty list and for no other
pub count_zero : (l : List (List ℕ)) → (count l ≡ 0) ↔ (l ≡ [])
count_zero l = length_zero l

-- the hops of an empty list are 65535
pub hops_empty : (l : List (List ℕ)) → l ≡ [] → hops l ≡ 65535
unfolding hops
hops_empty l e = ap hops e

-- the hops of a list whose members all have k positions are k
pub hops_member : {l : List (List ℕ)} {w : List ℕ} {k : ℕ} → Memᴰ w l
    → ((u : List ℕ) → Memᴰ u l → length u ≡ k)
    → hops l ≡ k
unfolding hops
hops_member {l = []} m h = absurd (Memᴰ.not-nil m)
hops_member {l = v ∷ l} m h = h v (Memᴰ.head refl)

module _ {p : Plan} {t : List ℕ → Bool} {k : ℕ} (h : Least p t k) where
  -- some list of the least number of hops passes
  pub least_member : (w : List ℕ) × Memᴰ w (of_hops p t k)
  least_member = ⊎_elim (λ e. absurd (h.some e)) (λ m. m) (empty_or_member (of_hops p t k))

  -- the hops of the shortest lists are the least number of hops
  pub hops_least : hops (shortest p t) ≡ k
  hops_least = rw (shortest_at h) (hops_member least_member.1 (λ u m. ((mem_of_hops_law p t k).0 m).0))

module _ {p : Plan} {t : List ℕ → Bool} (b : Bounded p t) where
  -- no list that passes has fewer positions than the least number of hops
  pub least_passes : {k : ℕ} {w : List ℕ} → Least p t k → t w ≡ true → k ≤ length w
  least_passes {k} {w} h q =
      by_cases (dec_le k (length w)) (λ g. g) (λ n.
      absurd (member_not_empty ((mem_of_hops_bounded_law b (length w)).1 (refl, q)) (h.sooner (length w) (omega arith))))

  -- no list that passes has fewer positions than the shortest have
  pub shortest_least : {w : List ℕ} → t w ≡ true → hops (shortest p t) ≤ length w
  shortest_least {w} q = step (found b)
    where
      step : Found p t → hops (shortest p t) ≤ length w
      step (nowhere e n) = absurd (n w q)
      step (at_hops k h e) = rw (hops_least h) (least_passes h q)

  -- the shortest lists are those that pass and have as many positions as the shortest have
  pub shortest_mem : {w : List ℕ} → Memᴰ w (shortest p t) ↔ ((t w ≡ true) × (length w ≡ hops (shortest p t)))
  shortest_mem {w} = step (found b)
    where
      step : Found p t → Memᴰ w (shortest p t) ↔ ((t w ≡ true) × (length w ≡ hops (shortest p t)))
      step (nowhere e n) = (λ m. absurd (member_not_empty m e), λ h. absurd (n w h.0))
      step (at_hops k h e) =
          let r = mem_of_hops_bounded_law b k in
          rw (hops_least h, e) (λ m. ((r.0 m).1, (r.0 m).0), λ q. r.1 (q.1, q.0))

  -- there is no shortest list, or its hops are at most the plan's slots
  pub hops_bound : (shortest p t ≡ []) ⊎ (hops (shortest p t) ≤ p.slots)
  hops_bound = step (found b)
    where
      step : Found p t → (shortest p t ≡ []) ⊎ (hops (shortest p t) ≤ p.slots)
      step (nowhere e n) = inl e
      step (at_hops k h e) = inr (rw (hops_least h) h.fits)

-- the shortest of a test that implies a bounded one have no fewer hops
pub hops_implies : {p : Plan} {t u : List ℕ → Bool} → Bounded p u → ((w : List ℕ) → t w ≡ true → u w ≡ true)
    → p.slots ≤ 65535
    → hops (shortest p u) ≤ hops (shortest p t)
hops_implies {p} {t} {u} b i g = step (found (bounded_implies b i)) (hops_bound b)
  where
    step : Found p t → (shortest p u ≡ []) ⊎ (hops (shortest p u) ≤ p.slots)
        → hops (shortest p u) ≤ hops (shortest p t)
    step (nowhere e n) (inl z) = omega (arith, hops_empty (shortest p u) z, hops_empty (shortest p t) e)
    step (nowhere e n) (inr z) = omega (arith, hops_empty (shortest p t) e)
    step (at_hops k h e) z =
        let r = (mem_of_hops_law p t k).0 (least_member h).1 in
        omega (arith, shortest_least b (i (least_member h).0 r.2), hops_least h)

-- Two tests have the same shortest lists where the first implies the second, and what passes the second alone is longer
-- than some list that passes it.
pub shortest_agree : {p : Plan} {t u : List ℕ → Bool} → Bounded p u
    → ((w : List ℕ) → t w ≡ true → u w ≡ true)
    → ((w : List ℕ) → u w ≡ true → (t w ≡ true) ⊎ ((v : List ℕ) × (u v ≡ true) × (length v < length w)))
    → shortest p t ≡ shortest p u
unfolding of_hops
shortest_agree {p} {t} {u} b i c = step (found b)
  where
    agree : (k : ℕ) → Least p u k → (w : List ℕ) → length w ≡ k → (u w ≡ true) ⊎ (u w ≡ false) → t w ≡ u w
    agree k h w g (inl q) =
        ⊎_elim (λ a. a) (λ r. absurd (let s = least_passes b h r.1 in omega arith)) (c w q) ∙ sym q
    agree k h w g (inr q) = not_true_false (t w) (λ a. not_both (i w a) q) ∙ sym q

    same : (k : ℕ) → Least p u k → of_hops p t k ≡ of_hops p u k
    same k h =
        select_ext (tuples (length p.contacts) k) (λ w m.
        agree k h w ((mem_tuples (length p.contacts) k).0 m).0 (true_or_false (u w)))

    least : (k : ℕ) → Least p u k → Least p t k
    least k h =
        record {
          fits = h.fits;
          some = λ z. h.some (sym (same k h) ∙ z);
          sooner = λ j g. implied_empty p i j (h.sooner j g);
        }

    step : Found p u → shortest p t ≡ shortest p u
    step (nowhere e n) = shortest_fails p t (λ w q. n w (i w q)) ∙ sym e
    step (at_hops k h e) = shortest_at (least k h) ∙ (same k h ∙ sym e)

-- a choice between 0 and 0 is 0
cond_zero : (c : Bool) → ◌≡◌ {A = ℕ} (cond c 0 0) 0
cond_zero true = refl
cond_zero false = refl

-- A bounded test u is split over the members i of a list: what passes u passes exactly one f i, what fails u none.
module _ {I : Type 0} {p : Plan} {u : List ℕ → Bool} (b : Bounded p u) (f : I → List ℕ → Bool) (is : List I)
    (one : (w : List ℕ) → sum (map (λ i. cond (f i w) 1 0) is) ≡ cond (u w) 1 0) where
  -- each part implies the whole
  pub part_implies : {i : I} → Memᴰ i is → (w : List ℕ) → f i w ≡ true → u w ≡ true
  part_implies m w q = step (u w) (rw (one w, q) at (sum_member (λ i. cond (f i w) 1 0) m))
    where
      step : (c : Bool) → 1 ≤ cond c 1 0 → c ≡ true
      step true g = refl
      step false g = absurd (omega arith)

  -- the shortest of the whole have no more hops than the shortest of a part
  pub split_hops : {i : I} → Memᴰ i is → p.slots ≤ 65535 → hops (shortest p u) ≤ hops (shortest p (f i))
  split_hops m g = hops_implies b (part_implies m) g

  -- of k hops the whole has as many lists as its parts together
  pub split_of_hops_law : (k : ℕ) → count (of_hops p u k) ≡ sum (map (λ i. count (of_hops p (f i) k)) is)
  unfolding of_hops
  split_of_hops_law k =
      let all = tuples (length p.contacts) k in
      length_select u all
      ∙ sum_ext all (λ w m. sym (one w))
      ∙ sum_exchange (λ w i. cond (f i w) 1 0) all is
      ∙ sum_ext is (λ i m. sym (length_select (f i) all))

  -- of the least number of hops of the whole a part has its shortest lists, or none
  part_count : {i : I} {k : ℕ} → Memᴰ i is → Least p u k
      → count (of_hops p (f i) k) ≡ cond (eqb (hops (shortest p (f i))) k) (count (shortest p (f i))) 0
  part_count {i} {k} m h =
      step (empty_or_member (of_hops p (f i) k)) (found (bounded_implies b (part_implies m)))
    where
      least : (w : List ℕ) → Memᴰ w (of_hops p (f i) k) → Least p (f i) k
      least w n =
          record {
            fits = h.fits;
            some = member_not_empty n;
            sooner = λ j g. implied_empty p (part_implies m) j (h.sooner j g);
          }

      step : (of_hops p (f i) k ≡ []) ⊎ ((w : List ℕ) × Memᴰ w (of_hops p (f i) k)) → Found p (f i)
          → count (of_hops p (f i) k) ≡ cond (eqb (hops (shortest p (f i))) k) (count (shortest p (f i))) 0
      step (inl e) (nowhere z n) = rw (e, z) (sym (cond_zero (eqb (hops []) k)))
      step (inl e) (at_hops j g z) = rw (hops_least g, ne_eqb j k (λ q. g.some (ap (of_hops p (f i)) q ∙ e)), e)
      step (inr n) c =
          let g = least n.0 n.1 in
          rw (hops_least g, eq-eqb k k refl, shortest_at g)

  -- the shortest of the whole are as many as the shortest of those parts whose hops are the whole's
  pub split_count : count (shortest p u)
      ≡ sum (map (λ i. cond (eqb (hops (shortest p (f i))) (hops (shortest p u))) (count (shortest p (f i))) 0) is)
  split_count = step (found b)
    where
      step : Found p u → count (shortest p u)
          ≡ sum (map (λ i. cond (eqb (hops (shortest p (f i))) (hops (shortest p u))) (count (shortest p (f i))) 0) is)
      step (nowhere e n) =
          ap length e ∙ sym (sum_zero is (λ i m.
          rw (shortest_fails p (f i) (λ w q. n w (part_implies m w q)))
          (cond_zero (eqb (hops []) (hops (shortest p u))))))
      step (at_hops k h e) = rw (hops_least h, e) (split_of_hops_law k ∙ sum_ext is (λ i m. part_count m h))
