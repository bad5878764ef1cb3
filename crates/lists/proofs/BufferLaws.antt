-- What is written to the beginning of a buffer, as whole lists; and when two lists of numbers are the same. Assumes nothing.
use Prim.Native.Nat.{ℕ, zero, suc, ◌+◌, ◌-◌, ◌<◌, ◌≤◌}
use native.Mathlib.Omega.{arith}
use mathlib.Core.Path.{◌≡◌, refl, sym, ap, ap₂, ◌∙◌}
use mathlib.Core.Bool.{true, and-eq-true_iff}
use mathlib.Core.List.{List, [], ◌∷◌, ◌++◌, map}
use mathlib.Core.Logic.{◌↔◌}
use borrow.Author.Tests.{eqb-true, eq-eqb}
use lib.Dec.{eqb}
use lib.ListN.{
  length,
  get_or,
  take,
  drop,
  replicate,
  length-replicate,
  length-map,
  length-append,
  length-drop,
  get_or-map,
  get_or-append,
  take-append-drop,
}
use lib.Seq.{ext_get_or, get_or-take, length-take-le, drop-drop}
use Rattle.temporal.specs.Lists.{below}
use Rattle.temporal.specs.Outcome.{over}
use Rattle.temporal.specs.Cursor.{same_numbers}
use Rattle.lists.proofs.ListLaws.{not_both, length_below, get_d_below_law}

-- a list whose first k entries are new, and whose others are the old ones
pub over_by :
    (k : ℕ) (l new old : List ℕ) → length new ≡ k → k ≤ length l →
    ((i : ℕ) → i < k → get_or l i 0 ≡ get_or new i 0) → drop k l ≡ drop k old → l ≡ over new old
unfolding over
over_by k l new old size fits same rest =
    sym (take-append-drop k l) ∙
    ap₂ ◌++◌
    (ext_get_or 0 (take k l) new (length-take-le k l fits ∙ sym size)
    (λ i h.
    let inside : i < k = rw (length-take-le k l fits) at h in
    get_or-take k l i 0 inside ∙ same i inside))
    (rest ∙ ap (λ j. drop j old) (sym size))

-- what is written to the beginning of a buffer, where it fits, keeps its length
pub length_over : (new old : List ℕ) → length new ≤ length old → length (over new old) ≡ length old
unfolding over
length_over new old fits = simp (length-append, length-drop) (omega arith)

-- a fill over lists that agree beyond it
pub fill_beyond : (k x : ℕ) (a b : List ℕ) → drop k a ≡ drop k b → over (replicate k x) a ≡ over (replicate k x) b
unfolding over
fill_beyond k x a b e =
    ap (λ l. replicate k x ++ l)
    (ap (λ j. drop j a) (length-replicate k x) ∙ e ∙ ap (λ j. drop j b) (sym (length-replicate k x)))

-- within a list the default does not count
get_d_any : (l : List ℕ) (i d e : ℕ) → i < length l → get_or l i d ≡ get_or l i e
get_d_any [] i d e h = absurd (omega arith)
get_d_any (x ∷ l) zero d e h = refl
get_d_any (x ∷ l) (suc i) d e h = get_d_any l i d e (omega arith)

-- the entries of a table that is made place by place
pub get_d_made_law : (f : ℕ → ℕ) (k i : ℕ) → i < k → get_or (map f (below k)) i 0 ≡ f i
get_d_made_law f k i h =
    get_d_any (map f (below k)) i 0 (f 0) (rw (length-map (below k) f, length_below k) h) ∙
    get_or-map f (below k) i 0 ∙ ap f (get_d_below_law k i 0 h)

pub length_made : (f : ℕ → ℕ) (k : ℕ) → length (map f (below k)) ≡ k
length_made f k = length-map (below k) f ∙ length_below k

-- an entry of new ones written over a buffer
pub written : (f : ℕ → ℕ) (k i : ℕ) (old : List ℕ) → i < k → get_or (over (map f (below k)) old) i 0 ≡ f i
unfolding over
written f k i old h =
    get_or-append (map f (below k)) _ 0 i (rw (length_made f k) h) ∙ get_d_made_law f k i h

-- lists that agree from a on agree from every later place on
pub later_drop : (a b : ℕ) (x y : List ℕ) → a ≤ b → drop a x ≡ drop a y → drop b x ≡ drop b y
later_drop a b x y h e =
    let place : b ≡ a + (b - a) = omega arith in
    rw place (sym (drop-drop (b - a) a x) ∙ ap (drop (b - a)) e ∙ drop-drop (b - a) a y)

-- two lists of numbers are the same where the test says so
pub same_numbers_law : (u w : List ℕ) → (same_numbers u w ≡ true) ↔ (u ≡ w)
unfolding same_numbers
same_numbers_law [] [] = (λ e. refl, λ e. refl)
same_numbers_law [] (y ∷ w) = (λ e. absurd (not_both e refl), λ e. absurd (let z : ◌≡◌ {A = ℕ} 0 1 = cc in omega arith))
same_numbers_law (x ∷ u) [] = (λ e. absurd (not_both e refl), λ e. absurd (let z : ◌≡◌ {A = ℕ} 0 1 = cc in omega arith))
same_numbers_law (x ∷ u) (y ∷ w) = (
  λ e. let (a, b) = (and-eq-true_iff (eqb x y) (same_numbers u w)).0 e in
      let first = eqb-true x y a in
      let rest = (same_numbers_law u w).0 b in
      cc,
  λ e. let first : x ≡ y = cc in
      let rest : u ≡ w = cc in
      (and-eq-true_iff (eqb x y) (same_numbers u w)).1 (eq-eqb x y first, (same_numbers_law u w).1 rest),
)
