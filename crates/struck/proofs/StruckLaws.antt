-- The operation on a contact that is struck out, from what the tallies and the comparison leave. Assumes nothing.
use Prim.Native.Nat.{ℕ, ◌+◌, ◌-◌, ◌*◌, ◌^◌, ◌<◌, ◌≤◌}
use native.Mathlib.Omega.{arith}
use native.Mathlib.Nat.{mul-le-mul_left, mul-le-mul_right}
use mathlib.Core.Path.{◌≡◌, refl, sym, ap, ap₂, ◌∙◌}
use mathlib.Core.Bool.{Bool, true, false, ◌||◌}
use mathlib.Core.List.{List, [], map}
use lib.IntN.{ℤ, pos, ◌-ℤ◌}
use lib.ListN.{length, get_or, drop, replicate}
use Rattle.temporal.specs.Lists.{below}
use Rattle.temporal.specs.Plan.{Terms, units}
use Rattle.temporal.specs.Bytes.{plan_of}
use Rattle.temporal.specs.Cause.{plan_fault}
use Rattle.temporal.specs.Load.{load}
use Rattle.temporal.specs.Outcome.{Outcome, over, cleared, work_size}
use Rattle.temporal.specs.Struck.{struck_out, change}
use Rattle.temporal.specs.OutcomeStruck.{StruckBuffers, either_too_many, struck_off, struck}
use Rattle.walks.proofs.Accepted.{accepted}
use Rattle.lists.proofs.BufferLaws.{fill_beyond}
use Rattle.changes.specs.Changes.{Writable, Subtractable, with_loads, with_differences, with_zeros}
use Rattle.changes.proofs.WrittenLaws.{over_over, written_subtractable, written_differences}
use Rattle.tallies.specs.Tally.{tally_base, Tallied}
use Rattle.tallies.proofs.Sizes.{base_fits}
use Rattle.std.specs.Prelude.{Some, None, Result, Err}
use Rattle.struck.specs.Answer.{struck_buffers}
use Rattle.struck.specs.Work.{AllAs, AllStruck, StruckReady, ClearReady, too_many_struck, with_at, without_at}
use Rattle.struck.specs.Work.{RoomAs, RoomStruck, RoomAsked, RoomFor, RoomyReady}
use Rattle.struck.proofs.StrikeLaws.{strike_lent}
use Rattle.stale.specs.Depth.{DepthOf}
use Rattle.forward.specs.Passed.{most_columns, Lent}
use Rattle.forward.proofs.SizeLaws.{first_part}
use Rattle.tallies.proofs.Sizes.{block_some, block_fits}
use Rattle.tallies.specs.Tally.{block_of}
use Rattle.lists.proofs.BufferLaws.{later_drop}
use Rattle.temporal.specs.Cause.{first, terms_causes}
use Rattle.temporal.specs.Bytes.{records}
use Rattle.temporal.specs.Outcome.{short}
use Rattle.lists.proofs.ListLaws.{mem_below, map_ext, length_below}
use Rattle.walks.proofs.EnteredLaws.{
  refused_with,
  entered_plan,
  entered_call,
  entered_none,
  entered_cause,
  entered_pass,
  entered_work,
}
use Rattle.counting.proofs.ExactSum.{load_below}
use Rattle.plan.specs.Fault.{plan_number, call_number, check_number}
use Rattle.plan.specs.declared.CallFault.{CallFault}
use Rattle.plan.specs.declared.PlanFault.{PlanFault}
use Rattle.plan.proofs.Answers.{number-positive}
use Rattle.calls.specs.Call.{call_check_number}
use Rattle.calls.proofs.CallLaws.{terms_allowed, terms_refused}
use borrow.Author.Tests.{lt-ltb, le-ltb, le-leb, lt-leb}
use lib.ListN.{length-map, length-replicate}

-- both are cleared
pub cleared_both :
    (n t : ℕ) (changes changes' : List ℤ) (work work' : List ℕ) → changes' ≡ with_zeros n changes →
    work' ≡ over (replicate (work_size n t) 0) work →
    ◌≡◌ {A = Outcome ℕ StruckBuffers} (record { number = 9; values = 0; buffers = struck_buffers changes' work' })
    (too_many_struck n t (struck_buffers changes work))
unfolding too_many_struck cleared with_zeros
cleared_both n t changes changes' work work' a b = cc (a, b)

-- ---- the work

module _ (bs : List ℕ) (i n t : ℕ) (terms : Terms) (changes : List ℤ) (area : List ℕ) (ready : StruckReady bs n t terms changes area) where
  pub clear_ready : (other : List ℤ) (mid : List ℕ) → length other ≡ length changes → length mid ≡ length area → ClearReady n t other mid
  clear_ready other mid e f =
      let a = accepted bs n t ready.asked.accepted in
      let room = ready.changes_room in
      let fits = ready.asked.fits in
      record { stations = a.stations; slots = a.slots; changes_room = omega arith; area = omega arith }

  -- refused with 9, whatever both hold by then
  pub struck_refused :
      either_too_many (plan_of bs n t terms) i ≡ true → (other : List ℤ) (mid : List ℕ) → with_zeros n other ≡ with_zeros n changes →
      drop (work_size n t) mid ≡ drop (work_size n t) area →
      too_many_struck n t (struck_buffers other mid) ≡ struck_off (plan_of bs n t terms) i (struck_buffers changes area)
  unfolding too_many_struck struck_off cleared with_zeros plan_of struck_out
  struck_refused many other mid e f =
      let g = fill_beyond (work_size n t) 0 mid area f in
      rw many (cc (e, g))

  module _ (mid : List ℕ) where
    -- a count with the record is over 2^64 - 1
    pub struck_with : (r : Bool) → Tallied bs n t terms n area mid r → r ≡ true →
        too_many_struck n t (struck_buffers changes mid) ≡ struck_off (plan_of bs n t terms) i (struck_buffers changes area)
    unfolding plan_of
    struck_with r x e = struck_refused (rw (← x.too_many, e)) changes mid refl x.beyond

    module _ (x : Tallied bs n t terms n area mid false) (base : ℕ) (there : base ≡ tally_base n t) where
      abbrev place : ℕ
      place = base + n

      stations_few : n ≤ 256
      stations_few = (accepted bs n t ready.asked.accepted).stations

      loads_fit : (w : List ℕ) → length w ≡ length area → place + n ≤ length w
      loads_fit w e = let is = there in let room = base_fits n t in let fits = ready.asked.fits in omega arith

      load_with : (v : ℕ) → v < n → get_or mid (place + v) 0 ≡ load (plan_of bs n t terms) v
      unfolding plan_of
      load_with v h = ap (λ b. get_or mid (b + n + v) 0) there ∙ x.station_loads refl v h

      small_with : (v : ℕ) → v < n → get_or mid (place + v) 0 < 2 ^ 49
      unfolding plan_of
      small_with v h = rw (load_with v h) (load_below (plan_of bs n t terms) n v stations_few stations_few)

      -- the loads with the record can be written
      pub struck_writable : Writable mid place n changes
      struck_writable =
          record { loads_room = loads_fit mid x.same_length; changes_room = ready.changes_room; small = small_with }

      -- nothing of them is left in cleared changes
      zeros_over : with_zeros n (with_loads mid place n changes) ≡ with_zeros n changes
      unfolding with_zeros with_loads
      zeros_over = over_over _ _ changes (length-map (below n) _ ∙ length_below n ∙ sym (length-replicate n (pos 0)))

      pub struck_room : base + n ≤ length mid
      struck_room = let fits = loads_fit mid x.same_length in omega arith

      module _ (changes' : List ℤ) (written : changes' ≡ with_loads mid place n changes) (new : List ℕ) where
        -- a count in one of the two plans is over 2^64 - 1
        pub struck_either : AllStruck bs i n t terms mid new None →
            too_many_struck n t (struck_buffers changes' new)
            ≡ struck_off (plan_of bs n t terms) i (struck_buffers changes area)
        unfolding AllAs
        struck_either o = struck_refused o.answer changes' new (ap (with_zeros n) written ∙ zeros_over) (o.beyond ∙ x.beyond)

        module _ (k : ℕ) (o : AllStruck bs i n t terms mid new (Some k)) where
          load_without : (v : ℕ) → v < n → get_or new (place + v) 0 ≡ load (struck_out (plan_of bs n t terms) i) v
          unfolding AllAs
          load_without v h = ap (λ b. get_or new (b + n + v) 0) there ∙ o.answer.1.1 v h

          small_without : (v : ℕ) → v < n → get_or new (place + v) 0 < 2 ^ 49
          unfolding plan_of struck_out
          small_without v h = rw (load_without v h) (load_below (struck_out (plan_of bs n t terms) i) n v stations_few stations_few)

          pub struck_subtractable : Subtractable new place n changes'
          struck_subtractable =
              rw written
              (written_subtractable mid place n changes ready.changes_room new place small_with
              (record {
                loads_room = loads_fit new (o.same_length ∙ x.same_length);
                changes_room = ready.changes_room;
                small = small_without;
              }))

          -- the differences are the changes
          changed : with_differences new place n (with_loads mid place n changes) ≡ over (map (change (plan_of bs n t terms) i) (below n)) changes
          unfolding change
          changed =
              written_differences mid place n changes ready.changes_room new place ∙
              ap (λ l. over l changes)
              (map_ext (below n)
              (λ v m.
              let h = (mem_below n).0 m in
              ap₂ (λ a b. pos a -ℤ pos b) (load_without v h) (load_with v h)))

          pub struck_done :
              (changes'' : List ℤ) (area'' : List ℕ) → changes'' ≡ with_differences new place n changes' →
              area'' ≡ over (replicate (work_size n t) 0) new →
              ◌≡◌ {A = Outcome ℕ StruckBuffers} (record { number = 0; values = k; buffers = struck_buffers changes'' area'' })
              (struck_off (plan_of bs n t terms) i (struck_buffers changes area))
          unfolding struck_off cleared AllAs plan_of struck_out
          struck_done changes'' area'' a b =
              let few = o.answer.0 in
              let pairs = o.answer.1.0 in
              let e = a ∙ ap (with_differences new place n) written ∙ changed in
              let f = b ∙ fill_beyond (work_size n t) 0 new area (o.beyond ∙ x.beyond) in
              rw few (cc (pairs, e, f))

-- ---- the work where both plans' tallies fit

module _ (bs : List ℕ) (i n t : ℕ) (terms : Terms) (d base block : ℕ) (changes : List ℤ) (area : List ℕ)
    (ready : RoomyReady bs n t terms d base block changes area) where
  whole : StruckReady bs n t terms changes area
  whole =
      record {
        asked = record { accepted = ready.room.accepted; units = ready.room.units; fits = ready.area };
        changes_room = ready.changes_room;
      }

  within_area : (new : List ℕ) → drop (base + 8 * n) new ≡ drop (base + 8 * n) area → drop (work_size n t) new ≡ drop (work_size n t) area
  within_area new e = later_drop (base + 8 * n) (work_size n t) new area ready.inside e

  module _ (new : List ℕ) where
    pub roomy_clear : length new ≡ length area → ClearReady n t changes new
    roomy_clear e = clear_ready bs 0 n t terms changes area whole changes new refl e

    pub roomy_over : RoomStruck bs i n t terms base area new None →
        too_many_struck n t (struck_buffers changes new) ≡ struck_off (plan_of bs n t terms) i (struck_buffers changes area)
    unfolding RoomAs
    roomy_over o = struck_refused bs i n t terms changes area whole o.answer changes new refl (within_area new o.beyond)

    module _ (k : ℕ) (o : RoomStruck bs i n t terms base area new (Some k)) where
      stations_most : n ≤ 256
      stations_most = (accepted bs n t ready.room.accepted).stations

      load_with_record : (v : ℕ) → v < n → get_or new (base + 3 * n + v) 0 ≡ load (plan_of bs n t terms) v
      unfolding RoomAs
      load_with_record v h =
          let place : base + 3 * n + v ≡ with_at n base + n + v = omega arith in
          ap (λ j. get_or new j 0) place ∙ (o.answer.1.1 v h).0

      load_without_record : (v : ℕ) → v < n → get_or new (base + 5 * n + v) 0 ≡ load (struck_out (plan_of bs n t terms) i) v
      unfolding RoomAs
      load_without_record v h =
          let place : base + 5 * n + v ≡ without_at n base + n + v = omega arith in
          ap (λ j. get_or new j 0) place ∙ (o.answer.1.1 v h).1

      small_with_record : (v : ℕ) → v < n → get_or new (base + 3 * n + v) 0 < 2 ^ 49
      unfolding plan_of
      small_with_record v h = rw (load_with_record v h) (load_below (plan_of bs n t terms) n v stations_most stations_most)

      small_without_record : (v : ℕ) → v < n → get_or new (base + 5 * n + v) 0 < 2 ^ 49
      unfolding plan_of struck_out
      small_without_record v h =
          rw (load_without_record v h) (load_below (struck_out (plan_of bs n t terms) i) n v stations_most stations_most)

      pub roomy_writable : Writable new (base + 3 * n) n changes
      roomy_writable =
          let f = ready.room.fits in
          let l = o.same_length in
          record { loads_room = omega arith; changes_room = ready.changes_room; small = small_with_record }

      module _ (changes' : List ℤ) (written : changes' ≡ with_loads new (base + 3 * n) n changes) where
        pub roomy_subtractable : Subtractable new (base + 5 * n) n changes'
        roomy_subtractable =
            let f = ready.room.fits in
            let l = o.same_length in
            rw written
            (written_subtractable new (base + 3 * n) n changes ready.changes_room new (base + 5 * n) small_with_record
            (record { loads_room = omega arith; changes_room = ready.changes_room; small = small_without_record }))

        roomy_changed : with_differences new (base + 5 * n) n (with_loads new (base + 3 * n) n changes)
            ≡ over (map (change (plan_of bs n t terms) i) (below n)) changes
        unfolding change
        roomy_changed =
            written_differences new (base + 3 * n) n changes ready.changes_room new (base + 5 * n) ∙
            ap (λ l. over l changes)
            (map_ext (below n)
            (λ v m.
            let h = (mem_below n).0 m in
            ap₂ (λ a b. pos a -ℤ pos b) (load_without_record v h) (load_with_record v h)))

        pub roomy_done :
            (changes'' : List ℤ) (area'' : List ℕ) → changes'' ≡ with_differences new (base + 5 * n) n changes' →
            area'' ≡ over (replicate (work_size n t) 0) new →
            ◌≡◌ {A = Outcome ℕ StruckBuffers} (record { number = 0; values = k; buffers = struck_buffers changes'' area'' })
            (struck_off (plan_of bs n t terms) i (struck_buffers changes area))
        unfolding struck_off cleared RoomAs plan_of struck_out
        roomy_done changes'' area'' a b =
            let few = o.answer.0 in
            let pairs = o.answer.1.0 in
            let e = a ∙ ap (with_differences new (base + 5 * n) n) written ∙ roomy_changed in
            let f = b ∙ fill_beyond (work_size n t) 0 new area (within_area new o.beyond) in
            rw few (cc (pairs, e, f))

-- ---- which of the two it is

module _ (bs : List ℕ) (i n t g h : ℕ) (changes : List ℤ) (area : List ℕ) (ready : StruckReady bs n t (units g h) changes area) where
  module _ (mid : List ℕ) (d : ℕ) (found : DepthOf bs n h area mid d) where
    pub work_lent : Lent t (units g h) d (4 * (t + 1) - 2)
    work_lent = strike_lent bs n t g h area ready.asked mid d found

    module _ (base most : ℕ) (columns : most ≡ most_columns n t (units g h) d (4 * (t + 1) - 2)) (there : base ≡ tally_base n t) where
      pub work_room : (n ≤ 256) × ((h ≤ 255) × ((d ≤ 255) × RoomAsked n t (units g h) d base most))
      unfolding block_of
      work_room =
          let a = accepted bs n t ready.asked.accepted in
          let u = ready.asked.units in
          let kept = found.most in
          let high = u.most in
          let fits = block_fits n t (units g h) d u a.some_slot a.slots kept in
          (a.stations, (high, (omega arith, record { turns = u.turns; slots = a.some_slot; fits = rw (columns, there) fits })))

      -- both plans' tallies and a source's hops and counts take less than all before the tallies of one plan
      pub work_sub : 6 * n ≤ base
      unfolding tally_base
      work_sub =
          let a = accepted bs n t ready.asked.accepted in
          let slots = a.some_slot in
          let six : 6 * n ≤ (4 * (t + 1) - 2) * n = mul-le-mul_right n (omega arith) in
          let is = there in
          omega arith

      pub work_same :
          struck_off (plan_of bs n t (units g h)) i (struck_buffers changes mid) ≡ struck_off (plan_of bs n t (units g h)) i (struck_buffers changes area)
      unfolding struck_off cleared plan_of
      work_same =
          let one = mul-le-mul_left {m = 1} {n = t + 1} n (omega arith) in
          let beyond = later_drop n (work_size n t) mid area (omega arith) found.beyond in
          let e = fill_beyond (work_size n t) 0 mid area beyond in
          rw e refl

      pub work_roomy : (block : ℕ) → RoomFor n t (units g h) d base most (Some block) →
          RoomyReady bs n t (units g h) d (base - 6 * n) block changes mid
      unfolding tally_base block_of
      work_roomy block room =
          let a = accepted bs n t ready.asked.accepted in
          let columns_some = block_some n t (units g h) d ready.asked.units a.some_slot a.slots found.most a.some_station in
          let some = room.some (omega arith) in
          let fits = room.fits in
          let part = first_part n t (units g h) d block in
          let same = found.same_length in
          let area_fits = ready.asked.fits in
          let all = base_fits n t in
          let is = there in
          record {
            room = record {
              accepted = ready.asked.accepted;
              units = ready.asked.units;
              deep = found.deep;
              some_block = omega arith;
              area = omega arith;
              part = omega arith;
              fits = omega arith;
            };
            inside = omega arith;
            area = omega arith;
            changes_room = ready.changes_room;
          }

-- ---- how the operation begins

module _ (bs : List ℕ) (n t : ℕ) (terms : Terms) (i : ℕ) (changes : List ℤ) (area : List ℕ) where
  abbrev buffers : StruckBuffers
  buffers = struck_buffers changes area

  abbrev Is : ℕ → Type 0
  Is k = ◌≡◌ {A = Outcome ℕ StruckBuffers} (record { number = k; values = 0; buffers = buffers }) (struck bs n t terms i buffers)

  pub struck_plan : (r : Result (Unit {0}) PlanFault) (f : PlanFault) → check_number r ≡ plan_fault bs n t → r ≡ Err f → Is (plan_number f)
  unfolding struck
  struck_plan r f answer e =
      let number : plan_number f ≡ plan_fault bs n t = ap check_number (sym e) ∙ answer in
      let some = number-positive f in
      ap (refused_with 0 buffers (struck_off (plan_of bs n t terms) i buffers)) number ∙
      sym (entered_plan 0 buffers (struck_off (plan_of bs n t terms) i buffers) bs n t _ (omega arith))

  module _ (ok : plan_fault bs n t ≡ 0) where
    -- 12 or 14
    pub struck_terms :
        (r : Result (Unit {0}) CallFault) → call_check_number r ≡ first (terms_causes terms) → (f : CallFault) → r ≡ Err f → Is (call_number f)
    unfolding struck
    struck_terms r found f e = terms_refused 0 buffers _ bs n t terms _ ok r found f e

    module _ (right : first (terms_causes terms) ≡ 0) where
      lacks : (short n changes || short (work_size n t) area) ≡ true → Is 8
      unfolding struck
      lacks e =
          sym (entered_call 0 buffers _ bs n t _ ok ∙ entered_none 0 buffers _ (terms_causes terms) _ right ∙
          entered_cause 0 buffers _ 7 _ _ e)

      pub struck_short_changes : length changes < n → Is 8
      struck_short_changes h = lacks (rw (lt-ltb (length changes) n h))

      module _ (a : n ≤ length changes) where
        pub struck_short_area : length area < work_size n t → Is 8
        struck_short_area h = lacks (rw (le-ltb (length changes) n a, lt-ltb (length area) (work_size n t) h))

        module _ (b : work_size n t ≤ length area) where
          pub struck_position : records bs ≤ i → Is 17
          unfolding struck
          struck_position h =
              sym (entered_call 0 buffers _ bs n t _ ok ∙ entered_none 0 buffers _ (terms_causes terms) _ right ∙
              entered_pass 0 buffers _ 8 _ _ (rw (le-ltb (length changes) n a, le-ltb (length area) (work_size n t) b)) ∙
              entered_cause 0 buffers _ 16 _ [] (le-leb (records bs) i h))

          pub struck_works : i < records bs → struck bs n t terms i buffers ≡ struck_off (plan_of bs n t terms) i buffers
          unfolding struck
          struck_works h =
              entered_call 0 buffers _ bs n t _ ok ∙ entered_none 0 buffers _ (terms_causes terms) _ right ∙
              entered_pass 0 buffers _ 8 _ _ (rw (le-ltb (length changes) n a, le-ltb (length area) (work_size n t) b)) ∙
              entered_pass 0 buffers _ 17 _ [] (lt-leb (records bs) i h) ∙ entered_work 0 buffers _

          -- what the work asks
          pub struck_ready : StruckReady bs n t terms changes area
          struck_ready =
              record { asked = record { accepted = ok; units = terms_allowed terms right; fits = b }; changes_room = a }
