-- The text of a pair whose walks are read from the layered plan is the account's. Assumes nothing.
use Prim.Native.Nat.{ℕ, zero, suc, ◌*◌, ◌<◌, min}
use native.Mathlib.Omega.{arith}
use mathlib.Core.Path.{◌≡◌, refl, sym, ap, ap₂, ◌∙◌}
use mathlib.Core.List.{List, [], ◌∷◌, ◌++◌, map, flat_map, Memᴰ}
use lib.ListN.{length, get_or, take, length-map, get_or-map}
use Rattle.temporal.specs.Lists.{from, below}
use Rattle.temporal.specs.Plan.{Contact, Terms, start}
use Rattle.temporal.specs.Shortest.{shortest_walks_to}
use Rattle.temporal.specs.Bytes.{contact_at, records, plan_of}
use Rattle.temporal.specs.Cause.{plan_fault}
use Rattle.lists.proofs.ListLaws.{mem_get_d_law}
use Rattle.walks.proofs.PlanLaws.{contacts_length}
use Rattle.walks.proofs.Adequacy.{in_complete_list}
use Rattle.walks.proofs.WalkLaws.{run_positions, ends_inv}
use Rattle.text.specs.Field.{ascii}
use Rattle.text.specs.Pieces.{pieces}
use Rattle.text.proofs.PieceLaws.{pieces_all}
use Rattle.report.proofs.ReportLaws.{flat_map_ext_law}
use Rattle.layered.specs.Layered.{layered, down}
use Rattle.layered.proofs.RecordLaws.{layered_down, layered_records}
use Rattle.account.specs.Account.{leg, behind_leg, walk_line}
use Rattle.account.specs.Work.{lowered_at, walk_lines}
use Rattle.account.proofs.WalkLaws.{pieces_same}

-- ---- pieces by the members of a list

-- the numbers from i + 1 on are those from i on, each one more
from_later : (f : ℕ → List ℕ) (i k : ℕ) → flat_map f (from (suc i) k) ≡ flat_map (λ j. f (suc j)) (from i k)
unfolding from flat_map
from_later f i zero = refl
from_later f i (suc k) = ap (λ r. f (suc i) ++ r) (from_later f (suc i) k)

-- the first k members of a list, one by one
taken_members :
    (f : List ℕ → List ℕ) (k : ℕ) (l : List (List ℕ)) →
    flat_map f (take k l) ≡ flat_map (λ i. f (get_or l i [])) (from 0 (min k (length l)))
unfolding from flat_map
taken_members f zero l = let none : min zero (length l) ≡ 0 = omega arith in rw none refl
taken_members f (suc k) [] = let none : min (suc k) (length {A = List ℕ} []) ≡ 0 = omega arith in rw none refl
taken_members f (suc k) (w ∷ l) =
    let more : min (suc k) (length (w ∷ l)) ≡ suc (min k (length l)) = omega arith in
    rw more
    (ap (λ r. f w ++ r) (taken_members f k l ∙ sym (from_later (λ i. f (get_or (w ∷ l) i [])) 0 (min k (length l)))))

pub taken_pieces :
    (f : List ℕ → List ℕ) (k : ℕ) (l : List (List ℕ)) →
    pieces (λ i. f (get_or l i [])) 0 (min k (length l)) ≡ flat_map f (take k l)
unfolding below
taken_pieces f k l = pieces_all _ (min k (length l)) ∙ sym (taken_members f k l)

-- ---- a walk's line

-- two walks with as many legs whose contacts are the same have the same line
line_same :
    (at at' : ℕ → Contact) (w w' : List ℕ) → length w ≡ length w' →
    ((k : ℕ) → k < length w → at (get_or w k 0) ≡ at' (get_or w' k 0)) → walk_line at w ≡ walk_line at' w'
unfolding walk_line below
line_same at at' w w' size same =
    ap (λ l. ascii "  " ++ l)
    (flat_map_ext_law _ _ 0 (length w) (λ k h. ap₂ (λ c m. leg c (behind_leg m k)) (same k (omega arith)) size) ∙
    ap (λ m. flat_map (λ k. leg (at' (get_or w' k 0)) (behind_leg (length w') k)) (from 0 m)) size)

module _ (bs : List ℕ) (n t : ℕ) (terms : Terms) (v : ℕ) (ok : plan_fault bs n t ≡ 0) (okl : plan_fault (layered bs n v) (2 * n) t ≡ 0)
    (s z : ℕ) where
  abbrev list : List (List ℕ)
  list = shortest_walks_to (plan_of (layered bs n v) (2 * n) t terms) s z

  -- the line of a walk of the layered plan is that of the walk of the plan
  lowered_line : (w : List ℕ) → Memᴰ w list → walk_line (lowered_at (layered bs n v) n) w ≡ walk_line (contact_at bs) (map (down bs) w)
  lowered_line w m =
      line_same (lowered_at (layered bs n v) n) (contact_at bs) w (map (down bs) w) (sym (length-map w (down bs))) (λ k h.
      layered_down bs n t ok v (get_or w k 0) (position k h) ∙ ap (contact_at bs) (sym (get_d_down_law w k h)))
    where
      position : (k : ℕ) → k < length w → get_or w k 0 < 2 * records bs
      position k h =
          let p = plan_of (layered bs n v) (2 * n) t terms in
          let r = ends_inv p (start s) _ w ((in_complete_list (layered bs n v) (2 * n) t terms okl s z w).0 m).0 in
          omega (
            arith,
            run_positions p (start s) w r.runs (get_or w k 0) (mem_get_d_law w k 0 h),
            contacts_length (layered bs n v) (2 * n) t terms,
            layered_records bs n v,
          )

      get_d_down_law : (w : List ℕ) (k : ℕ) → k < length w → get_or (map (down bs) w) k 0 ≡ down bs (get_or w k 0)
      get_d_down_law [] k h = absurd (omega arith)
      get_d_down_law (q ∷ w) zero h = refl
      get_d_down_law (q ∷ w) (suc k) h = get_d_down_law w k (omega arith)

  -- the lines of the first walks of the layered plan are those of the plan's walks
  pub lowered_lines :
      (k : ℕ) (l : List (List ℕ)) → map (map (down bs)) list ≡ l →
      walk_lines (layered bs n v) n list (min k (length l)) ≡ flat_map (walk_line (contact_at bs)) (take k l)
  lowered_lines k l e =
      let size : length list ≡ length l = sym (length-map list (map (down bs))) ∙ ap length e in
      pieces_same _ (λ i. walk_line (contact_at bs) (get_or l i [])) (min k (length l)) (λ i h.
      lowered_line (get_or list i []) (mem_get_d_law list i [] (omega arith)) ∙
      ap (walk_line (contact_at bs)) (sym (get_or-map (map (down bs)) list i []) ∙ ap (λ l. get_or l i []) e)) ∙
      taken_pieces (walk_line (contact_at bs)) k l
