-- A table whose first entries are written one by one, the entry at v by a function of v. Assumes nothing.
use Prim.Native.Nat.{ℕ, zero, suc, ◌+◌, ◌<◌, ◌≤◌}
use native.Mathlib.Omega.{arith}
use mathlib.Core.Path.{◌≡◌, refl, sym, ap, ap₂, ◌∙◌}
use mathlib.Core.List.{List, [], ◌∷◌, ◌++◌, map}
use lib.ListN.{length, get_or, set, drop, length-set, length-map}
use lib.Seq.{set_at, append_snoc, drop-cons, get_or-append-add, get_or-drop}
use Rattle.temporal.specs.Lists.{from, below}
use Rattle.temporal.specs.Outcome.{over}
use Rattle.lists.proofs.ListLaws.{length_below}

-- the first v of n entries are written
pub record Writing {A : Type 0} (f : ℕ → A) (n : ℕ) (old : List A) (v : ℕ) (table : List A) : Type 0 where
  pub within : v ≤ n
  pub same_length : length table ≡ length old
  pub so_far : table ≡ over (map f (below v)) old

module _ {A : Type 0} (f : ℕ → A) where
  -- one place more at the end
  map_from_next : (i k : ℕ) → map f (from i (suc k)) ≡ map f (from i k) ++ (f (i + k) ∷ [])
  unfolding from
  map_from_next i zero = ap (λ j. f j ∷ []) (omega arith)
  map_from_next i (suc k) =
      let place : suc i + k ≡ i + suc k = omega arith in
      ap (◌∷◌ (f i)) (map_from_next (suc i) k ∙ ap (λ j. map f (from (suc i) k) ++ (f j ∷ [])) place)

  map_below_next : (k : ℕ) → map f (below (suc k)) ≡ map f (below k) ++ (f k ∷ [])
  unfolding below
  map_below_next k =
      let place : 0 + k ≡ k = omega arith in
      map_from_next 0 k ∙ ap (λ j. map f (from 0 k) ++ (f j ∷ [])) place

  pub length_made : (k : ℕ) → length (map f (below k)) ≡ k
  length_made k = length-map (below k) f ∙ length_below k

  -- the entry behind those that are written
  over_next :
      (k : ℕ) (old : List A) → k < length old →
      set (over (map f (below k)) old) k (f k) ≡ over (map f (below (suc k))) old
  unfolding over
  over_next k old h =
      ap (λ l. set (map f (below k) ++ l) k (f k)) (ap (λ j. drop j old) (length_made k) ∙ drop-cons old k (f k) h)
      ∙ set_at (map f (below k)) (get_or old k (f k)) (drop (suc k) old) (f k) k (length_made k)
      ∙ sym (append_snoc (map f (below k)) (f k) (drop (suc k) old))
      ∙ ap₂ ◌++◌ (sym (map_below_next k)) (ap (λ j. drop j old) (sym (length_made (suc k))))

  -- it is the old one
  over_behind : (k : ℕ) (old : List A) (d : A) → get_or (over (map f (below k)) old) k d ≡ get_or old k d
  unfolding over
  over_behind k old d =
      let place : length (map f (below k)) + 0 ≡ k = omega (arith, length_made k) in
      ap (λ j. get_or (over (map f (below k)) old) j d) (sym place)
      ∙ get_or-append-add (map f (below k)) (drop (length (map f (below k))) old) 0 d
      ∙ get_or-drop (length (map f (below k))) old 0 d
      ∙ ap (λ j. get_or old j d) place

  module _ (n : ℕ) (old : List A) where
    -- at first no entry is written
    pub writing_none : Writing f n old 0 old
    unfolding over below from
    writing_none = record { within = omega arith; same_length = refl; so_far = refl }

    -- an entry that is not written is the old one
    pub writing_behind : (v : ℕ) (table : List A) (d : A) → Writing f n old v table → get_or table v d ≡ get_or old v d
    writing_behind v table d w = ap (λ l. get_or l v d) w.so_far ∙ over_behind v old d

    -- one entry more
    pub writing_more :
        (v : ℕ) (table : List A) → n ≤ length old → v < n → Writing f n old v table →
        Writing f n old (v + 1) (set table v (f v))
    writing_more v table room h w =
        let next : v + 1 ≡ suc v = omega arith in
        record {
          within = omega arith;
          same_length = length-set table v (f v) ∙ w.same_length;
          so_far = rw next (ap (λ l. set l v (f v)) w.so_far ∙ over_next v old (omega arith));
        }

    -- at last all are
    pub writing_all : (v : ℕ) (table : List A) → n ≤ v → Writing f n old v table → table ≡ over (map f (below n)) old
    writing_all v table h w =
        let last : v ≡ n = omega (arith, w.within) in
        w.so_far ∙ ap (λ k. over (map f (below k)) old) last
