-- The pairs of a station, written source by source and destination by destination. Assumes nothing.
use Prim.Native.Nat.{ℕ, ◌+◌, ◌<◌, ◌≤◌}
use native.Mathlib.Omega.{arith}
use mathlib.Core.Path.{◌≡◌, refl, sym, ap, subst, ◌∙◌}
use mathlib.Core.Bool.{Bool, true, false, cond}
use mathlib.Core.List.{List, [], ◌∷◌, ◌++◌, map, flat_map, append_assoc}
use lib.ListN.{length}
use Rattle.temporal.specs.Lists.{below, select}
use Rattle.temporal.specs.Plan.{Plan, turning}
use Rattle.temporal.specs.Load.{Ends, ends_below, is_pair_of, pairs_below}
use Rattle.temporal.specs.Bytes.{contact_at, plan_of}
use Rattle.text.specs.Written.{Put}
use Rattle.text.specs.Pieces.{pieces}
use Rattle.text.proofs.GoingLaws.{Going}
use Rattle.text.proofs.PieceLaws.{pieces_all, piece_room}
use Rattle.account.specs.Account.{pair_text}
use Rattle.account.specs.Work.{
  between_text,
  source_text,
  pairs_text,
  Accountable,
  PairsWritable,
  SourceWritable,
  BetweenWritable,
}
use Rattle.account.proofs.WalkLaws.{pieces_same}

-- ---- the text of all pairs, source by source

module _ (f : Ends → List ℕ) (t : Ends → Bool) where
  -- the members that pass a test are those written
  selected : (l : List Ends) → flat_map f (select t l) ≡ flat_map (λ e. cond (t e) (f e) []) l
  unfolding select flat_map
  selected [] = refl
  selected (e ∷ l) = go (t e) (selected l)
    where
      go :
          (b : Bool) → flat_map f (select t l) ≡ flat_map (λ e. cond (t e) (f e) []) l →
          flat_map f (cond b (e ∷ select t l) (select t l)) ≡ cond b (f e) [] ++ flat_map (λ e. cond (t e) (f e) []) l
      go true h = ap (λ r. f e ++ r) h
      go false h = h

flat_map_append_law : (f : Ends → List ℕ) (l m : List Ends) → flat_map f (l ++ m) ≡ flat_map f l ++ flat_map f m
unfolding flat_map
flat_map_append_law f [] m = refl
flat_map_append_law f (e ∷ l) m = ap (λ r. f e ++ r) (flat_map_append_law f l m) ∙ sym (append_assoc (f e) (flat_map f l) (flat_map f m))

flat_map_map_law : (f : Ends → List ℕ) (h : ℕ → Ends) (l : List ℕ) → flat_map f (map h l) ≡ flat_map (λ z. f (h z)) l
unfolding flat_map
flat_map_map_law f h [] = refl
flat_map_map_law f h (z ∷ l) = ap (λ r. f (h z) ++ r) (flat_map_map_law f h l)

flat_map_flat_law : (f : Ends → List ℕ) (h : ℕ → List Ends) (l : List ℕ) → flat_map f (flat_map h l) ≡ flat_map (λ s. flat_map f (h s)) l
unfolding flat_map
flat_map_flat_law f h [] = refl
flat_map_flat_law f h (s ∷ l) = flat_map_append_law f (h s) (flat_map h l) ∙ ap (λ r. flat_map f (h s) ++ r) (flat_map_flat_law f h l)

-- all pairs of v are those from each source in turn
pub pairs_by_source :
    (bs : List ℕ) (n t g v k : ℕ) → pairs_text bs n t g v k ≡ pieces (source_text bs n t g v k) 0 n
unfolding pairs_below ends_below plan_of between_text
pairs_by_source bs n t g v k =
    selected text (is_pair_of p v) (ends_below n n) ∙
    flat_map_flat_law between (λ s. map (λ z. record { source = s; destination = z }) (below n)) (below n) ∙
    sym (pieces_all _ n) ∙
    pieces_same _ _ n (λ s h. flat_map_map_law between (λ z. record { source = s; destination = z }) (below n) ∙ sym (pieces_all _ n))
  where
    p : Plan
    p = plan_of bs n t (turning g)

    text : Ends → List ℕ
    text = pair_text (contact_at bs) p v k

    between : Ends → List ℕ
    between e = cond (is_pair_of p v e) (text e) []

-- ---- the tables and buffers between two calls: only their lengths count

pub record Lengths (through way work through' way' work' : List ℕ) : Type 0 where
  pub through_same : length through' ≡ length through
  pub way_same : length way' ≡ length way
  pub work_same : length work' ≡ length work

pub lengths_begin : (through way work : List ℕ) → Lengths through way work through way work
lengths_begin through way work = record { through_same = refl; way_same = refl; work_same = refl }

pub lengths_next :
    {through way work through' way' work' through'' way'' work'' : List ℕ} → Lengths through way work through' way' work' →
    length through'' ≡ length through' → length way'' ≡ length way' → length work'' ≡ length work' →
    Lengths through way work through'' way'' work''
lengths_next l a b c =
    record { through_same = a ∙ l.through_same; way_same = b ∙ l.way_same; work_same = c ∙ l.work_same }

accountable_still :
    (bs : List ℕ) (n t g v : ℕ) (ls through way work through' way' work' : List ℕ) → Accountable bs n t g v ls through way work →
    Lengths through way work through' way' work' → Accountable bs n t g v ls through' way' work'
accountable_still bs n t g v ls through way work through' way' work' a l =
    record {
      accepted = a.accepted;
      stations = a.stations;
      slots = a.slots;
      few = a.few;
      allowed = a.allowed;
      counted = a.counted;
      station = a.station;
      layers = a.layers;
      through_room = omega (arith, a.through_room, l.through_same);
      way_room = omega (arith, a.way_room, l.way_same);
      work_room = omega (arith, a.work_room, l.work_same);
    }

module _ (bs : List ℕ) (n t g v k at : ℕ) (ls through way work out : List ℕ) (through' way' work' : List ℕ) (end : ℕ) (now : List ℕ)
    (l : Lengths through way work through' way' work') where
  -- the next pair from s can be written
  pub between_next :
      (s z : ℕ) → SourceWritable bs n t g v k s at ls through way work out → z < n →
      Going at (source_text bs n t g v k s) out end (pieces (between_text bs n t g v k s) z n) now →
      BetweenWritable bs n t g v k s z end ls through' way' work' now
  between_next s z w more going =
      record {
        accountable = accountable_still bs n t g v ls through way work through' way' work' w.accountable l;
        source = w.source;
        destination = more;
        room = piece_room _ _ _ _ _ _ _ _ going more;
      }

  -- the pairs from the next source can be written
  pub source_next :
      (s : ℕ) → PairsWritable bs n t g v k at ls through way work out → s < n →
      Going at (pieces (source_text bs n t g v k) 0 n) out end (pieces (source_text bs n t g v k) s n) now →
      SourceWritable bs n t g v k s end ls through' way' work' now
  source_next s w more going =
      record {
        accountable = accountable_still bs n t g v ls through way work through' way' work' w.accountable l;
        source = more;
        room = piece_room _ _ _ _ _ _ _ _ going more;
      }

-- all pairs have room source by source
pub pairs_room :
    (bs : List ℕ) (n t g v k at : ℕ) (ls through way work out : List ℕ) → PairsWritable bs n t g v k at ls through way work out →
    at + length (pieces (source_text bs n t g v k) 0 n) ≤ length out
pairs_room bs n t g v k at ls through way work out w =
    subst (λ l. at + length l ≤ length out) (pairs_by_source bs n t g v k) w.room

pub pairs_written :
    (bs : List ℕ) (n t g v k at : ℕ) (out : List ℕ) (r : ℕ) (now : List ℕ) → Put at (pieces (source_text bs n t g v k) 0 n) out r now →
    Put at (pairs_text bs n t g v k) out r now
pairs_written bs n t g v k at out r now q = subst (λ l. Put at l out r now) (sym (pairs_by_source bs n t g v k)) q
