-- Next way answers 10 exactly where no other cause of refusal holds and the way buffer begins with no shortest walk of the
-- pair. Assumes nothing.
use Prim.Native.Nat.{ℕ, zero, suc, ◌+◌}
use native.Mathlib.Omega.{arith}
use mathlib.Core.Path.{◌≡◌, refl, sym, ap, subst, ◌∙◌}
use mathlib.Core.Bool.{Bool, true, false, cond}
use mathlib.Core.List.{List, [], ◌∷◌, ◌++◌, Memᴰ}
use mathlib.Core.Logic.{inl, ⊎_elim, ◌↔◌}
use mathlib.Core.Option.{Option, none, some}
use lib.Dec.{ltb}
use lib.ListN.{length, take, get_or}
use Rattle.temporal.specs.Walk.{holds}
use Rattle.temporal.specs.Shortest.{hops}
use Rattle.temporal.specs.Cause.{first, unless, plan_fault, plan_causes}
use Rattle.temporal.specs.Cursor.{last_path, refused, index_in, stay, give, go_next, next_way, go, move}
use Rattle.temporal.specs.FirstNext.{Question, list_of, way_causes, overflow}
use Rattle.temporal.specs.Trace.{cause_of}
use Rattle.temporal.proofs.CauseLaws.{first_append_left}
use Rattle.lists.proofs.ListLaws.{not_both, mem_get_d_law}
use Rattle.walks.proofs.Adequacy.{in_complete_list}
use Rattle.ways.proofs.OrderLaws.{index_inv, index_some}
use Rattle.trace.proofs.TraceFollows.{answer_moves}
use Rattle.demands.specs.Demand3.{NotOffered, TenWhereNotOffered}
use Rattle.walks.proofs.NumberLaws.{OtherThanTen, causes_other}

-- the cursor's move at a next way answers 10 exactly where no other cause holds and the cursor is on none
move_ten : (k : ℕ) (l : List (List ℕ)) (at : Option ℕ) (b : List ℕ) → OtherThanTen k
    → ((move next_way k l at b).reply ≡ refused 10) ↔ ((k ≡ 0) × (at ≡ none))
unfolding move unless go go_next stay give
move_ten (suc k) l at b small = (
  λ e. let same : suc k ≡ 10 = cc in absurd (small.not_ten same),
  λ h. absurd (let z = h.0 in omega arith),
)
move_ten zero l none b small = (λ e. (refl, refl), λ h. refl)
move_ten zero l (some i) b small = (
  λ e. absurd (pick (ltb (i + 1) (length l)) e),
  λ h. absurd (let off : ◌≡◌ {A = Option ℕ} (some i) none = h.1 in let z : ◌≡◌ {A = ℕ} 0 1 = cc in omega arith),
)
  where
    pick : (c : Bool) → (cond c (give l (i + 1) b) (stay last_path (some i) b)).reply ≡ refused 10 → ⊥
    pick true e = let z : ◌≡◌ {A = ℕ} 0 1 = cc in omega arith
    pick false e = let z : ◌≡◌ {A = ℕ} 0 1 = cc in omega arith

module _ (q : Question) (ok : plan_fault q.bytes q.stations q.slots ≡ 0) where
  -- the members of a complete list have the pair's hops
  member_hops : (w : List ℕ) → Memᴰ w (list_of q) → length w ≡ hops (list_of q)
  unfolding list_of
  member_hops w m = ((in_complete_list q.bytes q.stations q.slots q.terms ok q.source q.destination w).0 m).1

  -- the cursor is on none exactly where the buffer begins with no shortest walk
  index_none : (way : List ℕ) → (index_in (list_of q) way ≡ none) ↔ NotOffered q way
  unfolding index_in holds
  index_none way = (
    λ e. inl (λ m.
        let begins = ap (λ h. take h way) (sym (member_hops (take (hops (list_of q)) way) m)) in
        not_both (index_some way m begins) (rw e)),
    ⊎_elim (λ absent. pick absent (index_in (list_of q) way) refl) (λ empty. rw empty),
  )
    where
      pick : (Memᴰ (take (hops (list_of q)) way) (list_of q) → ⊥) → (at : Option ℕ) → index_in (list_of q) way ≡ at → at ≡ none
      pick absent none e = refl
      pick absent (some i) e =
          let (inside, begins) = index_inv (list_of q) way i e in
          let m = mem_get_d_law (list_of q) i [] inside in
          absurd (absent (subst (λ w. Memᴰ w (list_of q))
          (begins ∙ ap (λ h. take h way) (member_hops (get_or (list_of q) i []) m)) m))

-- a call without a cause names an accepted plan
plan_accepted : (q : Question) (wayLength work_length : ℕ) → first (way_causes q wayLength work_length ++ overflow q ∷ []) ≡ 0
    → plan_fault q.bytes q.stations q.slots ≡ 0
unfolding way_causes plan_fault
plan_accepted q wayLength work_length e =
    first_append_left (plan_causes q.bytes q.stations q.slots) _
    (first_append_left (way_causes q wayLength work_length) (overflow q ∷ []) e)

pub ten_where_not_offered : TenWhereNotOffered
unfolding cause_of
ten_where_not_offered q way work r wayAfter work_after e =
    let number = first (way_causes q (length way) (length work) ++ overflow q ∷ []) in
    let reply : r ≡ (move next_way number (list_of q) (index_in (list_of q) way) way).reply =
    ap (λ a. a.reply) e ∙ (answer_moves next_way q way work).reply in
    let moves = move_ten number (list_of q) (index_in (list_of q) way) way (causes_other q (length way) (length work)) in (
      λ ten.
          let (free, off) = moves.0 (sym reply ∙ ten) in
          (free, (index_none q (plan_accepted q (length way) (length work) free) way).0 off),
      λ h.
          reply ∙
          moves.1 (h.0, (index_none q (plan_accepted q (length way) (length work) h.0) way).1 h.1),
    )
