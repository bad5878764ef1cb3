-- What adding one pair to one station changes, and that the entries of the station are then one destination ahead.
-- Assumes nothing.
use Prim.Native.Nat.{ℕ, ◌+◌, ◌-◌, ◌*◌, ◌/◌, ◌^◌, ◌<◌, ◌≤◌}
use mathlib.Core.Path.{◌≡◌, refl, ap, ◌∙◌}
use mathlib.Core.Bool.{Bool, true, false, cond, ◌||◌}
use mathlib.Core.List.{List}
use mathlib.Core.Logic.{◌≢◌, by_cases}
use native.Mathlib.Omega.{arith}
use native.Mathlib.Decide.{ℕ_discrete}
use native.Mathlib.Nat.{div-le_of_le-mul}
use borrow.Author.Tests.{eq-eqb, ne_eqb}
use lib.Dec.{eqb}
use lib.ListN.{length, get_or, set, length-set}
use lib.Seq.{get_or-set_same, get_or-set_other, drop-set-lt, lt-length-set}
use Rattle.temporal.specs.Plan.{Plan}
use Rattle.temporal.specs.Shortest.{shortest_walks_to, through, count}
use Rattle.tallies.specs.Progress.{pair_term, load_term, TallyEntry, Kept}
use Rattle.pass.specs.Column.{lanes_by, column_at}
use Rattle.tallies.specs.Progress.{counted_in, added, added_at}
use Rattle.tallies.proofs.TermLaws.{Nothing, nothing_through, through_destination, pair_adds, load_adds}
use Rattle.tallies.proofs.TermLaws.{partly_next}

-- a list that differs from another only at the tallies of station v
pub record Moved (n base v : ℕ) (w x : List ℕ) : Type 0 where
  pub front : (i : ℕ) → i < base → get_or x i 0 ≡ get_or w i 0
  pub other_pairs : (u : ℕ) → u < n → u ≢ v → get_or x (base + u) 0 ≡ get_or w (base + u) 0
  pub other_loads : (u : ℕ) → u < n → u ≢ v → get_or x (base + n + u) 0 ≡ get_or w (base + n + u) 0
  pub kept : Kept n base w x

module _ (n base : ℕ) (w : List ℕ) (v : ℕ) (h : v < n) (fits : base + 2 * n ≤ length w) where
  module _ (x : ℕ) where
    in_pairs : get_or (counted_in n base w v x) (base + v) 0 ≡ get_or w (base + v) 0 + 1
    unfolding counted_in
    in_pairs =
        let u = set w (base + v) (get_or w (base + v) 0 + 1) in
        get_or-set_other u (base + n + v) (base + v) (get_or w (base + n + v) 0 + x) 0 (omega arith)
        ∙ get_or-set_same w (base + v) (get_or w (base + v) 0 + 1) 0 (omega arith)

    in_load : get_or (counted_in n base w v x) (base + n + v) 0 ≡ get_or w (base + n + v) 0 + x
    unfolding counted_in
    in_load =
        let y = get_or w (base + v) 0 + 1 in
        let u = set w (base + v) y in
        get_or-set_same u (base + n + v) (get_or w (base + n + v) 0 + x) 0 (lt-length-set w (base + v) y (omega arith))

    in_other : (i : ℕ) → i ≢ base + v → i ≢ base + n + v → get_or (counted_in n base w v x) i 0 ≡ get_or w i 0
    unfolding counted_in
    in_other i a b =
        let y = get_or w (base + v) 0 + 1 in
        let u = set w (base + v) y in
        get_or-set_other u (base + n + v) i (get_or w (base + n + v) 0 + x) 0 b ∙ get_or-set_other w (base + v) i y 0 a

    in_kept : Kept n base w (counted_in n base w v x)
    unfolding counted_in
    in_kept =
        let y = get_or w (base + v) 0 + 1 in
        let u = set w (base + v) y in
        record {
          beyond =
              drop-set-lt (base + 2 * n) u (base + n + v) (get_or w (base + n + v) 0 + x) (omega arith)
              ∙ drop-set-lt (base + 2 * n) w (base + v) y (omega arith);
          same_length = rw (length-set, length-set);
        }

    moved_in : Moved n base v w (counted_in n base w v x)
    moved_in =
        record {
          front = λ i g. in_other i (omega arith) (omega arith);
          other_pairs = λ u g d. in_other (base + u) (omega arith) (omega arith);
          other_loads = λ u g d. in_other (base + n + u) (omega arith) (omega arith);
          kept = in_kept;
        }

  -- adding a pair changes nothing else
  pub moved_added : (z c past : ℕ) → Moved n base v w (added n base w v z c past)
  unfolding added
  moved_added z c past = step (eqb v z || eqb (c - past) 0)
    where
      step : (b : Bool) → Moved n base v w (cond b w (counted_in n base w v (2 ^ 32 * (c - past) / c)))
      step true =
          record {
            front = λ i g. refl;
            other_pairs = λ u g d. refl;
            other_loads = λ u g d. refl;
            kept = record { beyond = refl; same_length = refl };
          }
      step false = moved_in (2 ^ 32 * (c - past) / c)

-- a pair that adds nothing leaves the entries one destination ahead
pub entry_nothing : (p : Plan) (n base s v z : ℕ) (w : List ℕ) → Nothing p v s z
    → TallyEntry p n base s v z w → TallyEntry p n base s v (z + 1) w
entry_nothing p n base s v z w none e =
    record {
      pairs_there = omega (arith, e.pairs_there, none.pairs, partly_next (pair_term p v) n s z);
      load_there = omega (arith, e.load_there, none.load, partly_next (load_term p v) n s z);
    }

-- the entries of v are one destination ahead once the pair of s and z is added
pub entry_added : (p : Plan) (n base s v z c past : ℕ) (w : List ℕ) → v < n → base + 2 * n ≤ length w → s ≢ z
    → c ≡ count (shortest_walks_to p s z)
    → (v ≢ z → past + through p s z v ≡ count (shortest_walks_to p s z))
    → TallyEntry p n base s v z w → TallyEntry p n base s v (z + 1) (added n base w v z c past)
unfolding added
entry_added p n base s v z c past w h fits apart counted row e =
    by_cases (ℕ_discrete v z)
    (λ same. rw (eq-eqb v z same)
    (entry_nothing p n base s v z w
    (nothing_through p v s z (ap (through p s z) same ∙ through_destination p s z)) e))
    (λ other. rw (ne_eqb v z other)
    (by_cases (ℕ_discrete (c - past) 0)
    (λ none. rw (eq-eqb (c - past) 0 none)
    (entry_nothing p n base s v z w (nothing_through p v s z (omega (arith, row other))) e))
    (λ some. rw (ne_eqb (c - past) 0 some) (paired other some))))
  where
    paired : v ≢ z → c - past ≢ 0 → TallyEntry p n base s v (z + 1) (counted_in n base w v (2 ^ 32 * (c - past) / c))
    paired other some =
        let inside : through p s z v ≡ c - past = omega (arith, row other) in
        let positive : 0 < through p s z v = omega arith in
        let share = load_adds p v s z apart positive in
        record {
          pairs_there =
              omega (
                arith,
                in_pairs n base w v h fits (2 ^ 32 * (c - past) / c),
                e.pairs_there,
                pair_adds p v s z apart positive,
                partly_next (pair_term p v) n s z,
              );
          load_there =
              in_load n base w v h fits (2 ^ 32 * (c - past) / c)
              ∙ omega (
                arith,
                e.load_there,
                rw (inside, ← counted) at share,
                partly_next (load_term p v) n s z,
              );
        }

-- ---- the three ways that one addition can go

module _ (n base low block split z j : ℕ) (w : List ℕ) where
  pub added_destination : low + j ≡ z → w ≡ added_at n base low block split z j w
  unfolding added_at added
  added_destination e = rw (eq-eqb (low + j) z e)

  pub added_none : low + j ≢ z → get_or w (n + z) 0 - column_at (lanes_by split) w (2 * n + z * block) j ≡ 0
      → w ≡ added_at n base low block split z j w
  unfolding added_at added
  added_none d e = rw (ne_eqb (low + j) z d, eq-eqb _ 0 e)

  pub added_some : low + j ≢ z → get_or w (n + z) 0 - column_at (lanes_by split) w (2 * n + z * block) j ≢ 0 → (x : ℕ)
      → x ≡ 2 ^ 32 * (get_or w (n + z) 0 - column_at (lanes_by split) w (2 * n + z * block) j) / get_or w (n + z) 0
      → set (set w (base + (low + j)) (get_or w (base + (low + j)) 0 + 1)) (base + n + (low + j))
      (get_or w (base + n + (low + j)) 0 + x)
      ≡ added_at n base low block split z j w
  unfolding added_at added counted_in
  added_some d e x same = rw (ne_eqb (low + j) z d, ne_eqb _ 0 e, same)

-- what lies before the tallies stays
pub added_front : (n base low block split z j : ℕ) (w : List ℕ) → (low + j < n) × (base + 2 * n ≤ length w) → (i : ℕ) → i < base
    → get_or (added_at n base low block split z j w) i 0 ≡ get_or w i 0
unfolding added_at
added_front n base low block split z j w (station, fits) i h = (moved_added n base w (low + j) station fits z _ _).front i h

-- a share is at most one whole
pub whole_share : (x t c : ℕ) → x ≡ 2 ^ 32 * t / c → t ≤ c → x ≤ 2 ^ 32
whole_share x t c e h = rw e (div-le_of_le-mul c (omega arith))
