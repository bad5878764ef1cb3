-- The cursor over any list of walks whose members have one length and rise. Three facts carry the trace theorem: the
-- index at which a buffer stands is read off its first h entries, h the length of the members, so it is the same on a
-- lent beginning of at least h entries, and after a write behind them; and it is i after walk i was given.
-- Assumes nothing.
use Prim.Native.Nat.{ℕ, zero, suc, ◌+◌, ◌≤◌, ◌<◌}
use native.Mathlib.Omega.{arith}
use mathlib.Core.Path.{◌≡◌, refl, sym, ap, ◌∙◌}
use mathlib.Core.Bool.{Bool, true, false, cond, and-eq-true_iff}
use mathlib.Core.List.{List, [], ◌∷◌, ◌++◌, append_assoc, Memᴰ}
use mathlib.Core.Option.{Option, none, some}
use borrow.Author.Tests.{ltb-true, eqb-true, eq-eqb}
use lib.Dec.{ltb, eqb}
use lib.ListN.{length, take, drop, get_or, take-append-drop}
use lib.Seq.{take-take, take_at, drop-append-le, length-take-le}
use Rattle.temporal.specs.Lists.{Before, Rising}
use Rattle.temporal.specs.Cause.{unless}
use Rattle.temporal.specs.Outcome.{over}
use Rattle.temporal.specs.Cursor.{
  Reply,
  no_path,
  last_path,
  refused,
  same_numbers,
  index_in,
  Moved,
  stay,
  give,
  go_first,
  go_next,
  Operation,
  first_way,
  next_way,
  go,
  move,
}
use Rattle.lists.proofs.ListLaws.{not_true_false, before_irrefl, mem_get_d_law}

-- ---- when two lists of numbers are the same

-- same_numbers is true for equal lists
pub same_refl : (l : List ℕ) → same_numbers l l ≡ true
unfolding same_numbers
same_refl [] = refl
same_refl (x ∷ l) = (and-eq-true_iff (eqb x x) (same_numbers l l)).1 (eq-eqb x x refl, same_refl l)

-- and for no others
pub same_equal : (l m : List ℕ) → same_numbers l m ≡ true → l ≡ m
unfolding same_numbers
same_equal [] [] e = refl
same_equal [] (y ∷ m) e = absurd (let z : ◌≡◌ {A = ℕ} 0 1 = cc in omega arith)
same_equal (x ∷ l) [] e = absurd (let z : ◌≡◌ {A = ℕ} 0 1 = cc in omega arith)
same_equal (x ∷ l) (y ∷ m) e =
    let h = (and-eq-true_iff (eqb x y) (same_numbers l m)).0 e in
    let first : x ≡ y = eqb-true x y h.0 in
    let rest : l ≡ m = same_equal l m h.1 in
    cc

-- ---- entries written to the beginning of a buffer

-- a buffer begins with what was written to its beginning
pub take_over : (new old : List ℕ) (h : ℕ) → length new ≡ h → take h (over new old) ≡ new
unfolding over
take_over new old h e = take_at new (drop (length new) old) h e

-- to write to a lent beginning, the rest kept behind it, is to write to the whole buffer
pub over_lent : (new b : List ℕ) (k : ℕ) → length new ≤ k → k ≤ length b → over new (take k b) ++ drop k b ≡ over new b
unfolding over
over_lent new b k fits inside =
    let room : length new ≤ length (take k b) = rw (length-take-le k b inside) fits in
    append_assoc new (drop (length new) (take k b)) (drop k b)
    ∙ ap (◌++◌ new) (sym (drop-append-le (length new) (take k b) (drop k b) room)
    ∙ ap (drop (length new)) (take-append-drop k b))

-- a write behind the first h entries that keeps the buffer's length keeps those entries
pub take_behind : (h : ℕ) (b behind : List ℕ) → length (take h b ++ behind) ≡ length b
    → take h (take h b ++ behind) ≡ take h b
take_behind zero b behind same = refl
take_behind (suc h) [] [] same = refl
take_behind (suc h) [] (x ∷ behind) same = absurd (omega arith)
take_behind (suc h) (x ∷ b) behind same = ap (◌∷◌ x) (take_behind h b behind (omega arith))

-- ---- the index at which a buffer stands

-- what the trace theorem asks of a list of walks: all have h positions, and they rise, so none stands in it twice
pub record RisingPaths (h : ℕ) (l : List (List ℕ)) : Type 0 where
  pub one_length : (w : List ℕ) → Memᴰ w l → length w ≡ h
  pub rises : Rising l

-- the rest of such a list is one
rising_paths_rest : {h : ℕ} {w : List ℕ} {l : List (List ℕ)} → RisingPaths h (w ∷ l) → RisingPaths h l
unfolding Rising
rising_paths_rest p = record { one_length = λ u m. p.one_length u (Memᴰ.tail m); rises = p.rises.1 }

-- the index is read off the first h entries
pub index_by_beginning : {h : ℕ} {l : List (List ℕ)} → RisingPaths h l → (b d : List ℕ) → take h b ≡ take h d
    → index_in l b ≡ index_in l d
unfolding index_in
index_by_beginning {l = []} p b d e = refl
index_by_beginning {l = w ∷ l} p b d e =
    rw (p.one_length w (Memᴰ.head refl), e, index_by_beginning (rising_paths_rest p) b d e)

-- the index is the same on a lent beginning of at least h entries
pub index_lent : {h : ℕ} {l : List (List ℕ)} → RisingPaths h l → (b : List ℕ) (k : ℕ) → h ≤ k
    → index_in l (take k b) ≡ index_in l b
index_lent {h} p b k fits = index_by_beginning p (take k b) b (take-take h k b fits)

-- the index is the same after a write behind the first h entries
pub index_behind : {h : ℕ} {l : List (List ℕ)} → RisingPaths h l → (b behind : List ℕ)
    → length (take h b ++ behind) ≡ length b
    → index_in l (take h b ++ behind) ≡ index_in l b
index_behind {h} p b behind same = index_by_beginning p (take h b ++ behind) b (take_behind h b behind same)

-- the index is i where the buffer begins with walk i
pub index_at : {h : ℕ} {l : List (List ℕ)} → RisingPaths h l → (i : ℕ) (b : List ℕ) → i < length l
    → take h b ≡ get_or l i []
    → index_in l b ≡ some i
unfolding index_in Rising
index_at {l = []} p i b inside e = absurd (omega arith)
index_at {l = w ∷ l} p zero b inside e = rw (p.one_length w (Memᴰ.head refl), e, same_refl w)
index_at {l = w ∷ l} p (suc i) b inside e =
    let u = get_or l i [] in
    let before : Before w u = p.rises.0 u (mem_get_d_law l i [] (omega arith)) in
    let other : same_numbers w u ≡ false =
    not_true_false (same_numbers w u) (λ same. before_irrefl u (rw (same_equal w u same) at before)) in
    rw (p.one_length w (Memᴰ.head refl), e, other, index_at (rising_paths_rest p) i b (omega arith) e)

-- the index is i after walk i was given
pub index_given : {h : ℕ} {l : List (List ℕ)} → RisingPaths h l → (i : ℕ) (b : List ℕ) → i < length l
    → index_in l (over (get_or l i []) b) ≡ some i
index_given {h} {l} p i b inside =
    let w = get_or l i [] in
    index_at p i (over w b) inside (take_over w b h (p.one_length w (mem_get_d_law l i [] inside)))

-- ---- moves of the cursor

-- A move on a lent beginning of k entries answers what the move on the whole buffer answers and, the rest kept behind,
-- leaves the buffer that it leaves; and that buffer stands at the cursor.
pub record Agrees (l : List (List ℕ)) (b : List ℕ) (k : ℕ) (part whole : Moved) : Type 0 where
  pub reply : part.reply ≡ whole.reply
  pub buffer : part.buffer ++ drop k b ≡ whole.buffer
  pub cursor : index_in l whole.buffer ≡ whole.cursor

-- where the cursor stays
stay_agrees : (l : List (List ℕ)) (b : List ℕ) (k : ℕ) (r : Reply) (part whole : Option ℕ) → index_in l b ≡ whole
    → Agrees l b k (stay r part (take k b)) (stay r whole b)
unfolding stay
stay_agrees l b k r part whole e = record { reply = refl; buffer = take-append-drop k b; cursor = e }

module _ {h : ℕ} {l : List (List ℕ)} (p : RisingPaths h l)
    (b : List ℕ) (k : ℕ) (inside : k ≤ length b) (fits : h ≤ k) where
  -- where walk i is given
  give_agrees : (i : ℕ) → i < length l → Agrees l b k (give l i (take k b)) (give l i b)
  unfolding give
  give_agrees i below =
      let one = p.one_length (get_or l i []) (mem_get_d_law l i [] below) in
      record {
        reply = refl;
        buffer = over_lent (get_or l i []) b k (omega arith) inside;
        cursor = index_given p i b below;
      }

  -- at a next way
  next_agrees : (at : Option ℕ) → index_in l b ≡ at → Agrees l b k (go_next l at (take k b)) (go_next l at b)
  unfolding go_next
  next_agrees none e = stay_agrees l b k _ none none e
  next_agrees (some i) e = pick (ltb (i + 1) (length l)) refl
    where
      pick : (c : Bool) → ltb (i + 1) (length l) ≡ c → Agrees l b k
          (cond c (give l (i + 1) (take k b)) (stay last_path (some i) (take k b)))
          (cond c (give l (i + 1) b) (stay last_path (some i) b))
      pick true t = give_agrees (i + 1) (ltb-true (i + 1) (length l) t)
      pick false t = stay_agrees l b k last_path (some i) (some i) e

-- at a first way
first_agrees : {h : ℕ} {l : List (List ℕ)} → RisingPaths h l → (b : List ℕ) (k : ℕ) → k ≤ length b → h ≤ k
    → Agrees l b k (go_first l (index_in l b) (take k b)) (go_first l (index_in l b) b)
unfolding go_first
first_agrees {l = []} p b k inside fits = stay_agrees [] b k no_path (index_in [] b) (index_in [] b) refl
first_agrees {l = w ∷ l} p b k inside fits = give_agrees p b k inside fits 0 (omega arith)

-- at either operation
go_agrees : {h : ℕ} {l : List (List ℕ)} → RisingPaths h l → (o : Operation) (b : List ℕ) (k : ℕ) → k ≤ length b → h ≤ k
    → Agrees l b k (go o l (index_in l b) (take k b)) (go o l (index_in l b) b)
unfolding go
go_agrees p first_way b k inside fits = first_agrees p b k inside fits
go_agrees {l} p next_way b k inside fits = next_agrees p b k inside fits (index_in l b) refl

-- A move at cause n, on a lent beginning that is read anew, agrees with the move on the whole buffer; where n is 0 the
-- lists are one, and at least h entries are lent.
pub move_agrees : {h : ℕ} {l : List (List ℕ)} → RisingPaths h l
    → (o : Operation) (n : ℕ) (other : List (List ℕ)) (b : List ℕ) (k : ℕ)
    → k ≤ length b
    → (n ≡ 0 → (other ≡ l) × (h ≤ k))
    → Agrees l b k (move o n other (index_in other (take k b)) (take k b)) (move o n l (index_in l b) b)
unfolding move unless
move_agrees {l} p o zero other b k inside asked =
    let (same, fits) = asked refl in
    rw (same, index_lent p b k fits) (go_agrees p o b k inside fits)
move_agrees {l} p o (suc n) other b k inside asked =
    stay_agrees l b k (refused (suc n)) (index_in other (take k b)) (index_in l b) refl
