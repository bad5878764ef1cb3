-- What the work of first way and next way does: 9, the empty list, the first walk, 10, the next walk and the last one.
-- Assumes nothing.
use Prim.Native.Nat.{ℕ, ◌+◌, ◌*◌, ◌<◌, ◌≤◌}
use native.Mathlib.Omega.{arith}
use mathlib.Core.Path.{◌≡◌, refl, sym, ap, ◌∙◌}
use mathlib.Core.Bool.{Bool, true, false}
use mathlib.Core.Logic.{◌⊎◌, inl, inr, ⊎_elim, ◌≢◌}
use mathlib.Core.List.{List, [], ◌∷◌, ◌++◌}
use mathlib.Core.Option.{Option, none, some}
use borrow.Author.Tests.{ltb-true}
use lib.ListN.{length, get_or, drop, replicate, length-replicate}
use Rattle.lists.proofs.BufferLaws.{later_drop}
use Rattle.temporal.specs.Bytes.{plan_of}
use Rattle.temporal.specs.Walk.{holds, is_at}
use Rattle.temporal.specs.Shortest.{shortest_walks_to, hops}
use Rattle.temporal.specs.Cause.{cause, unless}
use Rattle.temporal.specs.Outcome.{over, cleared, work_size}
use Rattle.temporal.specs.Cursor.{
  Reply,
  path,
  no_path,
  last_path,
  refused,
  index_in,
  stay,
  give,
  go_first,
  go_next,
  Operation,
  first_way,
  next_way,
  go,
  move,
}
use Rattle.temporal.specs.FirstNext.{Question, list_of, overflow, way_work}
use Rattle.walks.proofs.Accepted.{accepted}
use Rattle.lists.proofs.ListLaws.{mem_get_d_law}
use Rattle.walks.proofs.ShortestLaws.{hops_bound}
use Rattle.walks.proofs.PlanLaws.{slots_within}
use Rattle.walks.proofs.Adequacy.{bounded_ends, in_complete_list}
use Rattle.stale.proofs.DepthLaws.{deep_all}
use Rattle.forward.specs.Passed.{pass_size, PassReady, Passed}
use Rattle.forward.proofs.SizeLaws.{small_fits}
use Rattle.ways.specs.Home.{Completed}
use Rattle.ways.specs.Found.{list_in, is_offered, Listable, Startable, Continuable, Stepped}
use Rattle.ways.specs.declared.Pair.{Pair}
use Rattle.listing.specs.Work.{WayReady, moved, Worked, way_outcome}

-- ---- lists

-- clearing lists that agree beyond what is cleared
clear_beyond : (k : ℕ) (a b : List ℕ) → drop k a ≡ drop k b → over (replicate k 0) a ≡ over (replicate k 0) b
unfolding over
clear_beyond k a b e =
    ap (λ l. replicate k 0 ++ l)
    (ap (λ j. drop j a) (length-replicate k 0) ∙ e ∙ ap (λ j. drop j b) (sym (length-replicate k 0)))

-- a list whose hops are 65535 is empty, and no other
empty_hops : (l : List (List ℕ)) → (l ≡ []) ⊎ (hops l ≤ 255) → hops l ≡ 65535 → l ≡ []
empty_hops l few e = ⊎_elim (λ n. n) (λ h. absurd (omega arith)) few

some_hops : (l : List (List ℕ)) → hops l ≢ 65535 → 0 < length l
unfolding hops
some_hops [] d = absurd (d refl)
some_hops (w ∷ l) d = omega arith

few_hops : (l : List (List ℕ)) → (l ≡ []) ⊎ (hops l ≤ 255) → hops l ≢ 65535 → hops l < 65535
unfolding hops
few_hops l few d = ⊎_elim (λ n. absurd (d (ap hops n))) (λ h. omega arith) few

-- an offered buffer begins with a member
offered_index : (x : Option ℕ) → holds x (λ i. true) ≡ true → (i : ℕ) × (x ≡ some i)
unfolding holds
offered_index none e = absurd (let z : ◌≡◌ {A = ℕ} 0 1 = cc in omega arith)
offered_index (some i) e = (i, refl)

unoffered_index : (x : Option ℕ) → holds x (λ i. true) ≡ false → x ≡ none
unfolding holds
unoffered_index none e = refl
unoffered_index (some i) e = absurd (let z : ◌≡◌ {A = ℕ} 0 1 = cc in omega arith)

-- ---- the cursor's moves

-- on a list that is not empty first way gives its first member
first_gives : (l : List (List ℕ)) (way : List ℕ) (at : Option ℕ) → 0 < length l → go_first l at way ≡ give l 0 way
unfolding go_first
first_gives [] way at h = absurd (omega arith)
first_gives (w ∷ l) way at h = refl

-- ---- the work

-- the pair that the code hands on
abbrev pub pair_of : Question → ℕ → Pair
pair_of q h =
    record {
      stations = q.stations;
      slots = q.slots;
      turnaround = q.terms.turnaround;
      keeping = q.terms.keeping;
      source = q.source;
      destination = q.destination;
      hops = h;
    }

module _ (q : Question) (way work : List ℕ) (ready : WayReady q way work) where
  few_list : (list_of q ≡ []) ⊎ (hops (list_of q) ≤ 255)
  unfolding list_of shortest_walks_to plan_of
  few_list =
      let slots = (accepted q.bytes q.stations q.slots ready.asked.accepted).slots in
      ⊎_elim inl (λ h. inr (omega arith))
      (hops_bound
      (bounded_ends (plan_of q.bytes q.stations q.slots q.terms)
      (slots_within q.bytes q.stations q.slots q.terms ready.asked.accepted) q.source (is_at q.destination)))

  -- every member has the list's hops
  one_length : (i : ℕ) → i < length (list_of q) → length (get_or (list_of q) i []) ≡ hops (list_of q)
  unfolding list_of
  one_length i h =
      ((in_complete_list q.bytes q.stations q.slots q.terms ready.asked.accepted q.source q.destination
      (get_or (list_of q) i [])).0 (mem_get_d_law (list_of q) i [] h)).1

  -- the pass has room
  within_area : pass_size q.stations q.slots q.terms q.terms.keeping 0 ≤ work_size q.stations q.slots
  within_area =
      let plan = accepted q.bytes q.stations q.slots ready.asked.accepted in
      let source = ready.asked.source in
      small_fits q.stations q.slots q.terms 0 ready.units (omega arith) plan.some_slot plan.slots (omega arith)

  pub pass_ready : PassReady q.bytes q.stations q.slots q.terms q.terms.keeping q.source 0 0 work
  pass_ready =
      let room = within_area in
      let area = ready.area in
      let turns = ready.units.turns in
      let keeps = ready.units.keeps in
      record {
        accepted = ready.asked.accepted;
        units = ready.units;
        deep = deep_all q.bytes q.stations q.terms.keeping (omega arith);
        source = ready.asked.source;
        stations = omega arith;
        fits = omega arith;
      }

  module _ (mid : List ℕ) (r : Bool)
      (passed : Passed q.bytes q.stations q.slots q.terms q.terms.keeping q.source 0 0 work mid r) where
    pub pass_beyond : drop (work_size q.stations q.slots) mid ≡ drop (work_size q.stations q.slots) work
    pass_beyond =
        later_drop (pass_size q.stations q.slots q.terms q.terms.keeping 0) (work_size q.stations q.slots) mid work
        within_area passed.beyond

    -- a count over 2^64 - 1
    pub worked_too_many : (o : Operation) → r ≡ true → Worked o q way work (refused 9) way mid
    unfolding overflow cause move unless stay
    worked_too_many o e =
        let many = sym passed.too_many ∙ e in
        record {
          reply = rw many refl;
          buffer = rw many refl;
          beyond = pass_beyond;
          same = passed.same_length;
        }

    module _ (fits : r ≡ false) (h : ℕ) (read : h ≡ get_or mid q.destination 0) where
      abbrev at : Option ℕ
      at = index_in (list_of q) way

      goes : (o : Operation) → moved o q way ≡ go o (list_of q) at way
      unfolding overflow cause move unless
      goes o = let few = sym passed.too_many ∙ fits in rw few refl

      read_hops : h ≡ hops (list_of q)
      unfolding list_of
      read_hops = read ∙ (passed.counted fits).station_hops_law q.destination ready.asked.destination

      -- an empty list
      pub list_empty : h ≡ 65535 → list_of q ≡ []
      list_empty e = empty_hops (list_of q) few_list (sym read_hops ∙ e)

      pub worked_no_path : h ≡ 65535 → Worked first_way q way work no_path way mid
      unfolding go go_first stay
      worked_no_path e =
          let none = list_empty e in
          let m = goes first_way in
          record {
            reply = rw (m, none) refl;
            buffer = rw (m, none) refl;
            beyond = pass_beyond;
            same = passed.same_length;
          }

      pub worked_no_offer : h ≡ 65535 → Worked next_way q way work (refused 10) way mid
      unfolding go go_next stay index_in
      worked_no_offer e =
          let none = list_empty e in
          let m = goes next_way in
          record {
            reply = rw (m, none) refl;
            buffer = rw (m, none) refl;
            beyond = pass_beyond;
            same = passed.same_length;
          }

      module _ (finite : h ≢ 65535) where
        finite_hops : hops (list_of q) ≢ 65535
        finite_hops e = finite (read_hops ∙ e)

        -- what the crate below asks of a pair with a walk
        pub ready_listable : Listable q.bytes (pair_of q h) way
        unfolding list_of
        ready_listable =
            let few = few_hops (list_of q) few_list finite_hops in
            let e = read_hops in
            record {
              accepted = ready.asked.accepted;
              source = ready.asked.source;
              fewest = e;
              path = omega arith;
              room = ready.room;
            }

        -- a buffer that begins with no shortest walk
        pub worked_not_offered : is_offered q.bytes (pair_of q h) way ≡ false → Worked next_way q way work (refused 10) way mid
        unfolding go go_next stay list_of
        worked_not_offered e =
            let none = unoffered_index (index_in (list_of q) way) e in
            let m = goes next_way in
            record {
              reply = rw (m, none) refl;
              buffer = rw (m, none) refl;
              beyond = pass_beyond;
              same = passed.same_length;
            }

        module _ (done : List ℕ)
            (completed : Completed q.bytes q.stations q.slots q.terms q.destination mid done) where
          pub done_beyond : drop (work_size q.stations q.slots) done ≡ drop (work_size q.stations q.slots) work
          done_beyond =
              later_drop (q.stations * (q.slots + 1)) (work_size q.stations q.slots) done mid (omega arith)
              completed.beyond ∙ pass_beyond

          pub ready_startable : Startable q.bytes (pair_of q h) done way
          ready_startable = record { listable = ready_listable; table = completed.table }

          pub ready_continuable : is_offered q.bytes (pair_of q h) way ≡ true
              → Continuable q.bytes (pair_of q h) done way
          ready_continuable e = record { listable = ready_listable; table = completed.table; offered = e }

          -- the first walk
          pub worked_first : (new : List ℕ) → new ≡ over (get_or (list_in q.bytes (pair_of q h)) 0 []) way
              → Worked first_way q way work (path h) new done
          unfolding go give list_of
          worked_first new e =
              let inside = some_hops (list_of q) finite_hops in
              let m = goes first_way ∙ first_gives (list_of q) way at inside in
              record {
                reply = rw m (ap path (read_hops ∙ sym (one_length 0 inside)));
                buffer = rw m e;
                beyond = done_beyond;
                same = completed.same ∙ passed.same_length;
              }

          module _ (offer : is_offered q.bytes (pair_of q h) way ≡ true) (more : Bool) (new : List ℕ)
              (stepped : Stepped (list_in q.bytes (pair_of q h)) way more new) where
            -- the next walk
            pub worked_next : more ≡ true → Worked next_way q way work (path h) new done
            unfolding go go_next give list_of
            worked_next e =
                let found = offered_index (index_in (list_of q) way) offer in
                let moves = stepped.next found.0 found.1 in
                let inside = sym moves.0 ∙ e in
                let lower = ltb-true (found.0 + 1) (length (list_of q)) inside in
                let m = goes next_way in
                let place = found.1 in
                record {
                  reply = rw (m, place, inside) (ap path (read_hops ∙ sym (one_length (found.0 + 1) lower)));
                  buffer = rw (m, place, inside) (rw inside at moves.1);
                  beyond = done_beyond;
                  same = completed.same ∙ passed.same_length;
                }

            -- the last walk
            pub worked_last : more ≡ false → Worked next_way q way work last_path new done
            unfolding go go_next stay list_of
            worked_last e =
                let found = offered_index (index_in (list_of q) way) offer in
                let moves = stepped.next found.0 found.1 in
                let outside = sym moves.0 ∙ e in
                let m = goes next_way in
                let place = found.1 in
                record {
                  reply = rw (m, place, outside) refl;
                  buffer = rw (m, place, outside) (rw outside at moves.1);
                  beyond = done_beyond;
                  same = completed.same ∙ passed.same_length;
                }

-- the work with the work area cleared after it
pub work_cleared : (o : Operation) (q : Question) (way work : List ℕ) (r : Reply) (new mid after : List ℕ)
    → Worked o q way work r new mid
    → after ≡ over (replicate (work_size q.stations q.slots) 0) mid
    → way_outcome r new after ≡ way_work o q way work
unfolding way_work cleared
work_cleared o q way work r new mid after w e =
    let c = e ∙ clear_beyond (work_size q.stations q.slots) mid work w.beyond in cc (w.reply, w.buffer, c)
