-- The three verdicts: when each is given, and that no list gets two. Assumes nothing.
use Prim.Native.Nat.{ℕ, suc, ◌*◌, ◌≤◌, ◌<◌}
use mathlib.Core.Path.{◌≡◌, refl, sym, ap, ◌∙◌, subst}
use mathlib.Core.Bool.{true, false}
use mathlib.Core.List.Memᴰ
use mathlib.Core.List.{List, [], ◌∷◌, ◌++◌, flat_map, append-nil, append_assoc, Memᴰ}
use native.Mathlib.Omega.{arith}
use native.Mathlib.Nat.{suc-mul, mul-lt-mul_of_pos_right}
use lib.ListN.{length, get_or, take, drop, length-append, take-append-drop}
use lib.Seq.{take-suc, take-length, take-take, take_at, drop_at, split_at, get_or-take, length-take-le}
use Rattle.temporal.specs.Lists.{below, any}
use Rattle.temporal.specs.Cursor.{same_numbers}
use Rattle.temporal.specs.Verdict.{complete, beginning, wrong, joined, verdict_on, IsComplete, IsBeginning}
use Rattle.lists.proofs.ListLaws.{any_true, any_false, mem_below, mem_get_d_law, not_true_false}
use Rattle.lists.proofs.BufferLaws.{same_numbers_law}

-- ---- ways one behind another

joined_append : (a b : List (List ℕ)) → joined (a ++ b) ≡ joined a ++ joined b
unfolding joined flat_map
joined_append [] b = refl
joined_append (w ∷ a) b = ap (◌++◌ w) (joined_append a b) ∙ sym (append_assoc w (joined a) (joined b))

-- one way more
pub joined_suc : (l : List (List ℕ)) (i : ℕ) → i < length l → joined (take (suc i) l) ≡ joined (take i l) ++ get_or l i []
unfolding joined flat_map
joined_suc l i inside =
    ap joined (take-suc l i [] inside) ∙ joined_append (take i l) (get_or l i [] ∷ []) ∙ ap (◌++◌ (joined (take i l))) (append-nil _)

joined_length : (h : ℕ) (l : List (List ℕ)) → ((w : List ℕ) → Memᴰ w l → length w ≡ h) → length (joined l) ≡ length l * h
unfolding joined flat_map
joined_length h [] sized = omega arith
joined_length h (w ∷ l) sized =
    length-append w (joined l) ∙
    omega (arith, sized w (Memᴰ.head refl), joined_length h l (λ u m. sized u (Memᴰ.tail m)), suc-mul (length l) h)

joined_parts : (a b : List (List ℕ)) (u w : List ℕ) (r : List (List ℕ)) → a ≡ b → u ≡ w
    → joined a ++ joined (u ∷ r) ≡ joined b ++ (w ++ joined r)
unfolding joined flat_map
joined_parts a b u w r same way = rw (same, way)

-- a list whose ways have h positions each
module _ (h : ℕ) (l : List (List ℕ)) (sized : (w : List ℕ) → Memᴰ w l → length w ≡ h) where
  -- so have the first m of them
  taken_sized : (m : ℕ) (w : List ℕ) → Memᴰ w (take m l) → length w ≡ h
  taken_sized m w mem = sized w (subst (Memᴰ w) (take-append-drop m l) (Memᴰ.append_left (drop m l) mem))

  pub taken_length : (m : ℕ) → m ≤ length l → length (joined (take m l)) ≡ m * h
  taken_length m inside =
      joined_length h (take m l) (taken_sized m) ∙ ap (λ k. k * h) (length-take-le m l inside)

  -- the way at place i of the first m ways
  pub way_there : (m i : ℕ) → i < m → m ≤ length l → take h (drop (i * h) (joined (take m l))) ≡ get_or l i []
  way_there m i less inside =
      let size : length (take m l) ≡ m = length-take-le m l inside in
      let way : get_or (take m l) i [] ≡ get_or l i [] = get_or-take m l i [] less in
      let front : take i (take m l) ≡ take i l = take-take i m l (omega arith) in
      let split : joined (take m l) ≡ joined (take i l) ++ (get_or l i [] ++ joined (drop (suc i) (take m l))) =
      ap joined (split_at (take m l) i [] (omega arith)) ∙
      joined_append (take i (take m l)) (get_or (take m l) i [] ∷ drop (suc i) (take m l)) ∙
      joined_parts _ _ _ _ (drop (suc i) (take m l)) front way in
      ap (λ e. take h (drop (i * h) e)) split ∙
      ap (take h) (drop_at (joined (take i l)) _ (i * h) (taken_length i (omega arith))) ∙
      take_at (get_or l i []) _ h (sized (get_or l i []) (mem_get_d_law l i [] (omega arith)))

-- ---- when each verdict is given

module _ (l : List (List ℕ)) (e : List ℕ) where
  pub verdict_complete : IsComplete l e → verdict_on l e ≡ complete
  unfolding verdict_on
  verdict_complete c = rw ((same_numbers_law e (joined l)).1 c)

  -- where the entries are the first ways, some or all, for no number
  pub verdict_wrong : ((i : ℕ) → i ≤ length l → e ≡ joined (take i l) → ⊥) → verdict_on l e ≡ wrong
  unfolding verdict_on
  verdict_wrong none =
      let all : same_numbers e (joined l) ≡ false =
      not_true_false _ (λ s. none (length l) (omega arith) ((same_numbers_law e (joined l)).0 s ∙ ap joined (sym (take-length l)))) in
      let some : any (λ i. same_numbers e (joined (take i l))) (below (length l)) ≡ false =
      (any_false _ (below (length l))).1 (λ i m. not_true_false _ (λ s.
      none i (let less = (mem_below (length l)).0 m in omega arith) ((same_numbers_law e (joined (take i l))).0 s))) in
      rw (all, some)

  module _ (h : ℕ) (some_hops : 0 < h) (sized : (w : List ℕ) → Memᴰ w l → length w ≡ h) where
    -- fewer than all ways are not all
    pub not_complete : (i : ℕ) → i < length l → e ≡ joined (take i l) → e ≡ joined l → ⊥
    not_complete i less s c =
        let few = taken_length h l sized i (omega arith) in
        let all = joined_length h l sized in
        let fewer = mul-lt-mul_of_pos_right less some_hops in
        omega (arith, ap length s, ap length c)

    pub verdict_beginning : IsBeginning l e → verdict_on l e ≡ beginning
    unfolding verdict_on
    verdict_beginning (i, less, s) =
        let all : same_numbers e (joined l) ≡ false =
        not_true_false _ (λ c. not_complete i less s ((same_numbers_law e (joined l)).0 c)) in
        let some : any (λ i. same_numbers e (joined (take i l))) (below (length l)) ≡ true =
        (any_true _ (below (length l))).1 (i, (mem_below (length l)).1 less, (same_numbers_law e (joined (take i l))).1 s) in
        rw (all, some)
