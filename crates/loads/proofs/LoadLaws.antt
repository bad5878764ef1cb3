-- Partial loads and busiest as they are defined, from what the tally leaves. Assumes nothing.
use Prim.Native.Nat.{ℕ, ◌+◌, ◌<◌, ◌≤◌}
use native.Mathlib.Omega.{arith}
use mathlib.Core.Path.{◌≡◌, sym, ap, ap₂, ◌∙◌}
use mathlib.Core.Bool.{Bool, true, false, ◌||◌}
use mathlib.Core.List.{List, [], map}
use borrow.Author.Tests.{lt-ltb, le-ltb}
use lib.ListN.{length, get_or, replicate}
use Rattle.temporal.specs.Plan.{Terms}
use Rattle.temporal.specs.Lists.{below}
use Rattle.temporal.specs.Load.{partial_pairs, partial_load, load, Busiest}
use Rattle.temporal.specs.Bytes.{plan_of}
use Rattle.temporal.specs.Cause.{plan_fault, first, terms_causes}
use Rattle.temporal.specs.Outcome.{Outcome, over, cleared, short, work_size}
use Rattle.temporal.specs.OutcomePair.{LoadBuffers, partly_loaded, partial_loads, compared, busiest}
use Rattle.walks.proofs.BusiestLaws.{busiest_unique}
use Rattle.lists.proofs.BufferLaws.{over_by, fill_beyond, get_d_made_law, length_made}
use Rattle.walks.proofs.EnteredLaws.{
  refused_with,
  entered_plan,
  entered_call,
  entered_none,
  entered_cause,
  entered_pass,
  entered_work,
}
use Rattle.plan.specs.Fault.{plan_number, call_number, check_number}
use Rattle.plan.specs.declared.CallFault.{CallFault}
use Rattle.calls.specs.Call.{call_check_number}
use Rattle.std.specs.Prelude.{Result, Err}
use Rattle.plan.specs.declared.PlanFault.{PlanFault}
use Rattle.plan.proofs.Answers.{number-positive}
use Rattle.calls.proofs.CallLaws.{terms_allowed, terms_refused}
use Rattle.tallies.specs.Tally.{tally_base, Tallied}
use Rattle.tallies.proofs.Sizes.{base_fits}
use Rattle.loads.specs.Answer.{load_buffers}
use Rattle.memory.specs.Copy.{Copied}
use Rattle.loads.specs.Largest.{Largest, LoadsReady, BusiestReady}

-- ---- partial loads

module _ (bs : List ℕ) (n t : ℕ) (terms : Terms) (k : ℕ) (ps ls area : List ℕ) (ready : LoadsReady bs n t terms k ps ls area) (area' : List ℕ) (r : Bool)
    (f : Tallied bs n t terms k area area' r) where
  -- too many: all three are cleared
  pub loaded_refused :
      r ≡ true → (ps' ls' area'' : List ℕ) → ps' ≡ over (replicate n 0) ps → ls' ≡ over (replicate n 0) ls →
      area'' ≡ over (replicate (work_size n t) 0) area' →
      ◌≡◌ {A = Outcome (Unit {0}) LoadBuffers} (record { number = 9; values = tt; buffers = load_buffers ps' ls' area'' })
      (partly_loaded (plan_of bs n t terms) k (load_buffers ps ls area))
  unfolding partly_loaded cleared plan_of
  loaded_refused e ps' ls' area'' a b c =
      let many = sym f.too_many ∙ e in
      let d = fill_beyond (work_size n t) 0 area' area f.beyond in
      rw many (cc (a, b, c, d))

  -- the tables have the pairs and the loads
  pub loaded_filled :
      r ≡ false → (base : ℕ) (ps' ls' area'' : List ℕ) → base ≡ tally_base n t → Copied area' base n ps ps' →
      Copied area' (base + n) n ls ls' → area'' ≡ over (replicate (work_size n t) 0) area' →
      ◌≡◌ {A = Outcome (Unit {0}) LoadBuffers} (record { number = 0; values = tt; buffers = load_buffers ps' ls' area'' })
      (partly_loaded (plan_of bs n t terms) k (load_buffers ps ls area))
  unfolding partly_loaded cleared plan_of
  loaded_filled e base ps' ls' area'' same a b c =
      let few = sym f.too_many ∙ e in
      let d = fill_beyond (work_size n t) 0 area' area f.beyond in
      let p : ps' ≡ over (map (partial_pairs (plan_of bs n t terms) k) (below n)) ps =
      over_by n ps' (map (partial_pairs (plan_of bs n t terms) k) (below n)) ps (length_made _ n)
      (let size = a.same_length in let room = ready.pairs_room in omega arith)
      (λ v h. a.here v h ∙ ap (λ i. get_or area' (i + v) 0) same ∙ f.station_pairs e v h ∙ sym (get_d_made_law _ n v h)) a.beyond in
      let l : ls' ≡ over (map (partial_load (plan_of bs n t terms) k) (below n)) ls =
      over_by n ls' (map (partial_load (plan_of bs n t terms) k) (below n)) ls (length_made _ n)
      (let size = b.same_length in let room = ready.loads_room in omega arith)
      (λ v h. b.here v h ∙ ap (λ i. get_or area' (i + n + v) 0) same ∙ f.station_loads e v h ∙ sym (get_d_made_law _ n v h)) b.beyond in
      rw few (cc (c, d, p, l))

module _ (bs : List ℕ) (n t : ℕ) (terms : Terms) (k : ℕ) (ps ls area : List ℕ) where
  pub loads_plan :
      (r : Result (Unit {0}) PlanFault) (f : PlanFault) → check_number r ≡ plan_fault bs n t → r ≡ Err f →
      ◌≡◌ {A = Outcome (Unit {0}) LoadBuffers}
      (record { number = plan_number f; values = tt; buffers = load_buffers ps ls area })
      (partial_loads bs n t terms k (load_buffers ps ls area))
  unfolding partial_loads
  loads_plan r f answer e =
      let number : plan_number f ≡ plan_fault bs n t = ap check_number (sym e) ∙ answer in
      let some = number-positive f in
      ap (refused_with tt (load_buffers ps ls area) (partly_loaded (plan_of bs n t terms) k (load_buffers ps ls area))) number ∙
      sym (entered_plan tt (load_buffers ps ls area) (partly_loaded (plan_of bs n t terms) k (load_buffers ps ls area)) bs n t _ (omega arith))

  module _ (ok : plan_fault bs n t ≡ 0) where
    -- 12 or 14
    pub loads_terms :
        (r : Result (Unit {0}) CallFault) → call_check_number r ≡ first (terms_causes terms) → (f : CallFault) → r ≡ Err f →
        ◌≡◌ {A = Outcome (Unit {0}) LoadBuffers} (record { number = call_number f; values = tt; buffers = load_buffers ps ls area })
        (partial_loads bs n t terms k (load_buffers ps ls area))
    unfolding partial_loads
    loads_terms r found f e = terms_refused tt _ _ bs n t terms _ ok r found f e

    pub loads_sources :
        first (terms_causes terms) ≡ 0 → n < k →
        ◌≡◌ {A = Outcome (Unit {0}) LoadBuffers} (record { number = 13; values = tt; buffers = load_buffers ps ls area })
        (partial_loads bs n t terms k (load_buffers ps ls area))
    unfolding partial_loads
    loads_sources right h =
        sym (entered_call tt _ _ bs n t _ ok ∙ entered_none tt _ _ (terms_causes terms) _ right ∙
        entered_cause tt _ _ 12 _ _ (lt-ltb n k h))

    module _ (right : first (terms_causes terms) ≡ 0) (few : k ≤ n) where
      abbrev lacking : Bool
      lacking = short n ps || (short n ls || short (work_size n t) area)

      lacks :
          lacking ≡ true →
          ◌≡◌ {A = Outcome (Unit {0}) LoadBuffers} (record { number = 8; values = tt; buffers = load_buffers ps ls area })
          (partial_loads bs n t terms k (load_buffers ps ls area))
      unfolding partial_loads
      lacks e = sym (entered_call tt _ _ bs n t _ ok ∙ entered_none tt _ _ (terms_causes terms) _ right ∙
          entered_pass tt _ _ 13 _ _ (le-ltb n k few) ∙ entered_cause tt _ _ 7 _ [] e)

      pub loads_short_pairs :
          length ps < n →
          ◌≡◌ {A = Outcome (Unit {0}) LoadBuffers} (record { number = 8; values = tt; buffers = load_buffers ps ls area })
          (partial_loads bs n t terms k (load_buffers ps ls area))
      loads_short_pairs h = lacks (rw (lt-ltb (length ps) n h))

      module _ (a : n ≤ length ps) where
        pub loads_short_loads :
            length ls < n →
            ◌≡◌ {A = Outcome (Unit {0}) LoadBuffers} (record { number = 8; values = tt; buffers = load_buffers ps ls area })
            (partial_loads bs n t terms k (load_buffers ps ls area))
        loads_short_loads h = lacks (rw (le-ltb (length ps) n a, lt-ltb (length ls) n h))

        module _ (b : n ≤ length ls) where
          pub loads_short_area :
              length area < work_size n t →
              ◌≡◌ {A = Outcome (Unit {0}) LoadBuffers} (record { number = 8; values = tt; buffers = load_buffers ps ls area })
              (partial_loads bs n t terms k (load_buffers ps ls area))
          loads_short_area h =
              lacks (rw (le-ltb (length ps) n a, le-ltb (length ls) n b, lt-ltb (length area) (work_size n t) h))

          pub loads_works :
              work_size n t ≤ length area →
              partial_loads bs n t terms k (load_buffers ps ls area) ≡ partly_loaded (plan_of bs n t terms) k (load_buffers ps ls area)
          unfolding partial_loads
          loads_works h =
              entered_call tt _ _ bs n t _ ok ∙
              entered_none tt _ _ (terms_causes terms) _ right ∙
              entered_pass tt _ _ 13 _ _ (le-ltb n k few) ∙
              entered_pass tt _ _ 8 _ []
              (rw (le-ltb (length ps) n a, le-ltb (length ls) n b, le-ltb (length area) (work_size n t) h)) ∙
              entered_work tt _ _

          -- what the work asks
          pub loads_ready : work_size n t ≤ length area → LoadsReady bs n t terms k ps ls area
          loads_ready h =
              record { accepted = ok; units = terms_allowed terms right; sources = few; pairs_room = a; loads_room = b; area = h }

-- the tallies end within the work area
pub tally_room : (n t base size : ℕ) → base ≡ tally_base n t → work_size n t ≤ size → base + n + n ≤ size
tally_room n t base size e fits = let room = base_fits n t in omega arith

-- ---- busiest

module _ (bs : List ℕ) (n t : ℕ) (terms : Terms) (area : List ℕ) where
  pub busiest_plan :
      (r : Result (Unit {0}) PlanFault) (f : PlanFault) → check_number r ≡ plan_fault bs n t → r ≡ Err f →
      ◌≡◌ {A = Outcome ℕ (List ℕ)} (record { number = plan_number f; values = 0; buffers = area }) (busiest bs n t terms area)
  unfolding busiest
  busiest_plan r f answer e =
      let number : plan_number f ≡ plan_fault bs n t = ap check_number (sym e) ∙ answer in
      let some = number-positive f in
      ap (refused_with 0 area (compared (plan_of bs n t terms) area)) number ∙
      sym (entered_plan 0 area (compared (plan_of bs n t terms) area) bs n t _ (omega arith))

  module _ (ok : plan_fault bs n t ≡ 0) where
    -- 12 or 14
    pub busiest_terms :
        (r : Result (Unit {0}) CallFault) → call_check_number r ≡ first (terms_causes terms) → (f : CallFault) → r ≡ Err f →
        ◌≡◌ {A = Outcome ℕ (List ℕ)} (record { number = call_number f; values = 0; buffers = area }) (busiest bs n t terms area)
    unfolding busiest
    busiest_terms r found f e = terms_refused 0 area _ bs n t terms _ ok r found f e

    module _ (right : first (terms_causes terms) ≡ 0) where
      pub busiest_short :
          length area < work_size n t →
          ◌≡◌ {A = Outcome ℕ (List ℕ)} (record { number = 8; values = 0; buffers = area }) (busiest bs n t terms area)
      unfolding busiest
      busiest_short h =
          sym (entered_call 0 area _ bs n t _ ok ∙ entered_none 0 area _ (terms_causes terms) _ right ∙
          entered_cause 0 area _ 7 _ [] (lt-ltb (length area) (work_size n t) h))

      pub busiest_works : work_size n t ≤ length area → busiest bs n t terms area ≡ compared (plan_of bs n t terms) area
      unfolding busiest
      busiest_works h =
          entered_call 0 area _ bs n t _ ok ∙
          entered_none 0 area _ (terms_causes terms) _ right ∙
          entered_pass 0 area _ 8 _ [] (le-ltb (length area) (work_size n t) h) ∙ entered_work 0 area _

      -- what the work asks
      pub busiest_ready : work_size n t ≤ length area → BusiestReady bs n t terms area
      busiest_ready h = record { accepted = ok; units = terms_allowed terms right; area = h }

  module _ (area' : List ℕ) (r : Bool) (f : Tallied bs n t terms n area area' r) (area'' : List ℕ)
      (c : area'' ≡ over (replicate (work_size n t) 0) area') where
    same : area'' ≡ cleared (work_size n t) area
    unfolding cleared
    same = c ∙ fill_beyond (work_size n t) 0 area' area f.beyond

    -- too many
    pub compared_refused :
        r ≡ true →
        ◌≡◌ {A = Outcome ℕ (List ℕ)} (record { number = 9; values = 0; buffers = area'' }) (compared (plan_of bs n t terms) area)
    unfolding compared plan_of
    compared_refused e =
        let many = sym f.too_many ∙ e in
        rw many (ap (λ l. record { number = 9; values = 0; buffers = l }) same)

    -- the lowest station with the largest load
    pub compared_found :
        r ≡ false → (base v : ℕ) → base ≡ tally_base n t → Largest area' (base + n) n v →
        ◌≡◌ {A = Outcome ℕ (List ℕ)} (record { number = 0; values = v; buffers = area'' }) (compared (plan_of bs n t terms) area)
    unfolding compared plan_of
    compared_found e base v at l =
        let few = sym f.too_many ∙ e in
        rw few
        (ap₂ (λ u w. record { number = 0; values = u; buffers = w }) (sym (busiest_unique (plan_of bs n t terms) v found)) same)
      where
        there : (u : ℕ) → u < n → get_or area' (base + n + u) 0 ≡ load (plan_of bs n t terms) u
        there u h = ap (λ i. get_or area' (i + n + u) 0) at ∙ f.station_loads e u h

        found : Busiest (plan_of bs n t terms) v
        found =
            record {
              station = l.within;
              largest = λ u h. omega (arith, there u h, there v l.within, l.largest u h);
              lowest = λ u h.
                  let inside = l.within in
                  omega (arith, there u (omega arith), there v l.within, l.lowest u h);
            }
