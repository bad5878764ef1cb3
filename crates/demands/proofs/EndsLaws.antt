-- The pairs of a station in their order, by source and then destination; and beginnings of lists. Assumes nothing.
use Prim.Native.Nat.{ℕ, zero, suc, ◌≤◌, ◌<◌}
use native.Mathlib.Omega.{arith}
use mathlib.Core.Path.{◌≡◌, refl, sym, ap, subst}
use mathlib.Core.Bool.{Bool, true, false, not, cond, and-eq-true_iff}
use mathlib.Core.List.Memᴰ
use mathlib.Core.List.{List, [], ◌∷◌, ◌++◌, map, flat_map, Memᴰ}
use mathlib.Core.Logic.{◌⊎◌, inl, inr, ⊎_elim, ◌↔◌, ◌≢◌}
use borrow.Author.Tests.{eqb-false, ne_eqb, not-true, ltb-true, lt-ltb}
use lib.Dec.{eqb}
use lib.ListN.{length, get_or, take, drop, take-append-drop}
use Rattle.temporal.specs.Lists.{from, below, select, Before, Rising}
use Rattle.temporal.specs.Plan.{Plan}
use Rattle.temporal.specs.Walk.{is_interior}
use Rattle.temporal.specs.Shortest.{shortest_walks_to, through}
use Rattle.temporal.specs.Load.{Ends, ends_below, is_pair_of, pairs_below, pairs_of}
use Rattle.lists.proofs.ListLaws.{by_member, mem_select, mem_map, mem_flat_map_law, mem_below, mem_from, mem_get_d_law}
use Rattle.demands.specs.Why.{ends, IsPair, EndsBefore, EndsRising, through_list}

-- ---- beginnings of lists

module _ {A : Type 0} where
  -- a member of a beginning is a member
  pub mem_take : (k : ℕ) (l : List A) {x : A} → Memᴰ x (take k l) → Memᴰ x l
  mem_take k l {x} m = subst (Memᴰ x) (take-append-drop k l) (Memᴰ.append_left (drop k l) m)

  -- a beginning that is long enough is the whole list
  pub take_all : (k : ℕ) (l : List A) → length l ≤ k → take k l ≡ l
  take_all zero [] h = refl
  take_all zero (x ∷ l) h = absurd (omega arith)
  take_all (suc k) [] h = refl
  take_all (suc k) (x ∷ l) h = ap (◌∷◌ x) (take_all k l (omega arith))

  -- a longer beginning goes on behind a shorter one
  pub take_further : (k j : ℕ) (l : List A) → k ≤ j → (behind : List A) × (take j l ≡ take k l ++ behind)
  take_further zero j l h = (take j l, refl)
  take_further (suc k) zero l h = absurd (omega arith)
  take_further (suc k) (suc j) [] h = ([], refl)
  take_further (suc k) (suc j) (x ∷ l) h = let (behind, e) = take_further k j l (omega arith) in (behind, ap (◌∷◌ x) e)

  -- a list has a member exactly if its length is not 0
  pub some_member : (l : List A) → (0 < length l) ↔ ((x : A) × Memᴰ x l)
  some_member [] = (λ h. absurd (omega arith), λ m. absurd (Memᴰ.not-nil m.1))
  some_member (x ∷ l) = (λ h. (x, Memᴰ.head refl), λ m. omega arith)

-- a beginning of a rising list rises
pub rising_take : (k : ℕ) (l : List (List ℕ)) → Rising l → Rising (take k l)
unfolding Rising
rising_take zero l r = tt
rising_take (suc k) [] r = tt
rising_take (suc k) (w ∷ l) r = (λ u m. r.0 u (mem_take k l m), rising_take k l r.1)

-- and its members stand before every other member of the list
pub take_first :
    (k : ℕ) (l : List (List ℕ)) → Rising l → (u w : List ℕ) → Memᴰ u (take k l) → Memᴰ w l →
    Memᴰ w (take k l) ⊎ Before u w
unfolding Rising
take_first zero l r u w m n = absurd (Memᴰ.not-nil m)
take_first (suc k) [] r u w m n = absurd (Memᴰ.not-nil m)
take_first (suc k) (x ∷ l) r u w m n =
    by_member n (λ e. inl (Memᴰ.head e)) (λ later.
    by_member m (λ e. inr (subst (λ y. Before y w) (sym e) (r.0 w later)))
    (λ there. ⊎_elim (λ o. inl (Memᴰ.tail o)) inr (take_first k l r.1 u w there later)))

-- ---- order

-- no pair stands before itself
before_itself : (e : Ends) → EndsBefore e e → ⊥
unfolding EndsBefore
before_itself e h =
    ⊎_elim (λ (g : e.source < e.source). omega arith)
    (λ (g : (e.source ≡ e.source) × (e.destination < e.destination)). let less = g.1 in omega arith) h

rising_select : (t : Ends → Bool) (l : List Ends) → EndsRising l → EndsRising (select t l)
unfolding select EndsRising
rising_select t [] r = tt
rising_select t (e ∷ l) r = step (t e) (rising_select t l r.1)
  where
    step : (c : Bool) → EndsRising (select t l) → EndsRising (cond c (e ∷ select t l) (select t l))
    step true s = (λ u m. r.0 u ((mem_select t l).0 m).0, s)
    step false s = s

rising_append : (a b : List Ends) → EndsRising a → EndsRising b
    → ((d e : Ends) → Memᴰ d a → Memᴰ e b → EndsBefore d e)
    → EndsRising (a ++ b)
unfolding EndsRising
rising_append [] b p q h = q
rising_append (x ∷ a) b p q h = (
  λ e m. ⊎_elim (p.0 e) (h x e (Memᴰ.head refl)) (Memᴰ.append_cases a m),
  rising_append a b p.1 q (λ d e m n. h d e (Memᴰ.tail m) n),
)

-- the pairs of one source rise
rising_row : (s i k : ℕ) → EndsRising (map (ends s) (from i k))
unfolding EndsRising EndsBefore from
rising_row s i zero = tt
rising_row s i (suc k) = (
  λ e m.
      let (z, there, same) = (mem_map (ends s) (from (suc i) k)).0 m in
      let low = ((mem_from (suc i) k).0 there).0 in
      subst (EndsBefore (ends s i)) same (inr (refl, omega arith)),
  rising_row s (suc i) k,
)

-- those of rising sources do
rising_rows : (n i k : ℕ) → EndsRising (flat_map (λ s. map (ends s) (below n)) (from i k))
unfolding EndsRising EndsBefore from below flat_map
rising_rows n i zero = tt
rising_rows n i (suc k) =
    rising_append (map (ends i) (below n)) _ (rising_row i 0 n) (rising_rows n (suc i) k) (λ d e m o.
    let (y, _, first) = (mem_map (ends i) (below n)).0 m in
    let (s, later, row) = (mem_flat_map_law (λ s. map (ends s) (below n)) (from (suc i) k)).0 o in
    let (z, _, second) = (mem_map (ends s) (below n)).0 row in
    let low = ((mem_from (suc i) k).0 later).0 in
    let less : i < s = omega arith in
    subst (λ x. EndsBefore x e) first (subst (EndsBefore (ends i y)) second (inl less)))

-- The pairs of a station rise.
pub pairs_rise : (p : Plan) (v : ℕ) → EndsRising (pairs_of p v)
unfolding pairs_below ends_below below
pairs_rise p v = rising_select (is_pair_of p v) _ (rising_rows p.stations 0 p.stations)

-- so no member stands in a rising list twice
pub rising_once :
    (l : List Ends) → EndsRising l → (d : Ends) (i j : ℕ) → i < j → j < length l → get_or l i d ≢ get_or l j d
unfolding EndsRising
rising_once [] r d i j g h e = omega arith
rising_once (x ∷ l) r d i zero g h e = omega arith
rising_once (x ∷ l) r d zero (suc j) g h e =
    before_itself x (subst (EndsBefore x) (sym e) (r.0 (get_or l j d) (mem_get_d_law l j d (omega arith))))
rising_once (x ∷ l) r d (suc i) (suc j) g h e = rising_once l r.1 d i j (omega arith) (omega arith) e

-- ---- members

-- the pairs of two stations
mem_ends : (k n s z : ℕ) → Memᴰ (ends s z) (ends_below k n) ↔ ((s < k) × (z < n))
unfolding ends_below
mem_ends k n s z = (
  λ m.
      let (x, there, row) = (mem_flat_map_law (λ s. map (ends s) (below n)) (below k)).0 m in
      let (y, inside, same) = (mem_map (ends x) (below n)).0 row in
      let low = (mem_below k).0 there in
      let high = (mem_below n).0 inside in
      let source : x ≡ s = ap (λ e. e.source) same in
      let destination : y ≡ z = ap (λ e. e.destination) same in
      (omega arith, omega arith),
  λ h. (mem_flat_map_law (λ s. map (ends s) (below n)) (below k)).1
      (s, (mem_below k).1 h.0, (mem_map (ends s) (below n)).1 (z, (mem_below n).1 h.1, refl)),
)

-- A pair stands in the list of the pairs of v exactly if it is one.
pub pairs_exactly : (p : Plan) (v s z : ℕ) → Memᴰ (ends s z) (pairs_of p v) ↔ IsPair p v s z
unfolding pairs_below through
pairs_exactly p v s z = (
  λ m.
      let (there, is) = (mem_select (is_pair_of p v) (ends_below p.stations p.stations)).0 m in
      let (source, destination) = (mem_ends p.stations p.stations s z).0 there in
      let (other, counted) = (and-eq-true_iff (not (eqb s z)) _).0 is in
      let (w, passes) = (some_member (through_list p v (ends s z))).0 (ltb-true 0 _ counted) in
      let (listed, inside) = (mem_select (is_interior p s z v) (shortest_walks_to p s z)).0 passes in
      record {
        source_station = source;
        destination_station = destination;
        different = eqb-false s z (not-true _ other);
        walk = w;
        through = record { listed = listed; inside = inside };
      },
  λ h.
      let passes = (mem_select (is_interior p s z v) (shortest_walks_to p s z)).1 (h.through.listed, h.through.inside) in
      (mem_select (is_pair_of p v) (ends_below p.stations p.stations)).1 (
        (mem_ends p.stations p.stations s z).1 (h.source_station, h.destination_station),
        (and-eq-true_iff (not (eqb s z)) _).1 (
          ap not (ne_eqb s z h.different),
          lt-ltb 0 _ ((some_member (through_list p v (ends s z))).1 (h.walk, passes)),
        ),
      ),
)
