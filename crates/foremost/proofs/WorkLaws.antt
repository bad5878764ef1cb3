-- The operation on shortest foremost paths, from what the pass and the through counts leave. Assumes nothing.
use Prim.Native.Nat.{ℕ, ◌+◌, ◌≤◌}
use native.Mathlib.Omega.{arith}
use mathlib.Core.Path.{◌≡◌, refl, sym, ap, subst, ◌∙◌}
use mathlib.Core.Bool.{Bool, true, false}
use mathlib.Core.List.{List, [], map}
use mathlib.Core.Logic.{◌≢◌, inl, inr, ⊎_elim}
use borrow.Author.Tests.{eq-eqb, ne_eqb}
use lib.ListN.{length, get_or, drop, replicate}
use Rattle.temporal.specs.Plan.{Terms, Keeps}
use Rattle.temporal.specs.Lists.{below}
use Rattle.temporal.specs.Bytes.{plan_of}
use Rattle.temporal.specs.Shortest.{hops, count, through_in}
use Rattle.temporal.specs.Foremost.{arrival, foremost_paths, walks_by}
use Rattle.temporal.specs.Cause.{plan_fault, appearance_too_many}
use Rattle.temporal.specs.Outcome.{Outcome, over, cleared, work_size}
use Rattle.temporal.specs.OutcomePair.{PairBuffers}
use Rattle.temporal.specs.OutcomeForemost.{ForemostValues, foremost_through, foremost_paired, foremost}
use Rattle.temporal.specs.Struck.{lacking_record}
use Rattle.walks.proofs.Accepted.{accepted}
use Rattle.walks.proofs.LackingLaws.{lacking_nothing}
use Rattle.lists.proofs.BufferLaws.{over_by, fill_beyond, get_d_made_law, length_made, later_drop}
use Rattle.walks.proofs.ForemostLaws.{Arrival, never, arrives, arrival_or_never, foremost_by_arrival, foremost_none, foremost_few}
use Rattle.walks.proofs.PlanLaws.{slots_within}
use Rattle.walks.proofs.ShortestLaws.{hops_empty}
use Rattle.plan.specs.Fault.{plan_number, call_number, check_number}
use Rattle.plan.specs.declared.PlanFault.{PlanFault}
use Rattle.plan.specs.declared.CallFault.{CallFault}
use Rattle.std.specs.Prelude.{Option, Some, None, Result, Ok, Err}
use Rattle.calls.specs.Call.{pair_call_fault, call_check_number}
use Rattle.pass.specs.Column.{block_column, whole}
use Rattle.pass.specs.declared.Stopped.{Stopped}
use Rattle.pass.specs.declared.Stopped.TheVariants as stopped
use Rattle.std.specs.Prelude.{MatchOption}
use Rattle.pass.specs.PassedColumns.{waiting, area_size, ColumnsReady, EndedAs, ColumnsPassed, Overfull}
use Rattle.forward.proofs.SizeLaws.{size_kept, small_fits}
use Rattle.forward.proofs.UseLaws.{whole_appearances}
use Rattle.pair.specs.Answer.{pair_buffers}
use Rattle.pair.specs.Throughs.{PairReady, ThroughsReady, ThroughsBy, Throughs}
use Rattle.pair.proofs.BeginLaws.{begins_plan, begins_call, begins_works}
use Rattle.foremost.specs.Work.{met_appearance, AppearancesReady, Appearances, ForemostsBy, Foremosts, slot_value}

-- ---- cause 9

module _ (bs : List ℕ) (n t : ℕ) (terms : Terms) (s : ℕ) (old : List ℕ) (ready : AppearancesReady bs n t terms s old) where
  -- the pass can be made
  pub appearances_pass : ColumnsReady (lacking_record bs (length bs)) n t terms s n 0 old
  appearances_pass =
      let inside = ready.source in
      subst (λ l. ColumnsReady l n t terms s n 0 old) (sym (lacking_nothing bs))
      (record {
        accepted = ready.accepted;
        units = ready.units;
        source = ready.source;
        other = λ q. omega arith;
        fits = ready.fits;
      })

  -- and says whether an appearance has too many
  pub appearances_met :
      (new : List ℕ) (r : Bool) (e : Result ℕ Stopped) →
      ColumnsPassed bs n t terms s n whole (block_column 0 0) 0 (area_size n (waiting t terms) 0) old new e → r ≡ met_appearance e →
      Appearances bs n t terms s old new r
  unfolding met_appearance EndedAs
  appearances_met new r e x is =
      record {
        met = is ∙ decide e x.ends;
        beyond = x.beyond;
        same_length = x.same_length;
      }
    where
      decide :
          (e : Result ℕ Stopped) → EndedAs bs n t terms s n whole (block_column 0 0) 0 new e →
          met_appearance e ≡ appearance_too_many (plan_of bs n t terms) s
      decide (Ok e) y = sym (whole_appearances whole bs n t terms s ready.accepted ready.source (block_column 0 0) 0 new e y)
      decide (Err stopped.StationTooMany) y = sym y.appearances
      decide (Err stopped.AppearanceTooMany) y = sym y
      decide (Err stopped.TooWide) y = absurd (y refl)

-- ---- the through counts

-- (kept) the operation takes no h
module _ (bs : List ℕ) (n t : ℕ) (terms : Terms) (s z : ℕ) (table area : List ℕ) (ready : PairReady bs n t terms s z table area)
    (keeps : Keeps t terms) where
  room : area_size n (waiting t terms) 0 ≤ work_size n t
  room =
      let a = accepted bs n t ready.accepted in
      subst (λ k. k ≤ work_size n t) (size_kept n t terms terms.keeping 0 keeps)
      (small_fits n t terms 0 ready.units a.some_station a.some_slot a.slots (omega arith))

  -- cause 9 can be looked for
  pub whole_area : AppearancesReady bs n t terms s area
  whole_area =
      let fits = room in
      let lent = ready.area in
      record {
        accepted = ready.accepted;
        units = record { turns = ready.units.turns; keeps = keeps };
        source = ready.source;
        fits = omega arith;
      }

  module _ (mid : List ℕ) (b : Bool) (a : Appearances bs n t terms s area mid b) where
    area_same : drop (work_size n t) mid ≡ drop (work_size n t) area
    area_same = later_drop (area_size n (waiting t terms) 0) (work_size n t) mid area room a.beyond

    -- an appearance with too many
    pub foremosts_over : b ≡ true → Foremosts bs n t terms s z table area table mid None
    foremosts_over e =
        record {
          answer = sym a.met ∙ e;
          table_beyond = refl;
          table_length = refl;
          area_beyond = area_same;
          area_length = a.same_length;
        }

    -- else the through counts can be counted
    pub foremosts_ready : ThroughsReady bs n t terms s z z table mid
    foremosts_ready =
        let same = a.same_length in
        let lent = ready.area in
        record {
          ready = record {
            accepted = ready.accepted;
            units = ready.units;
            source = ready.source;
            destination = ready.destination;
            different = ready.different;
            table = ready.table;
            area = omega arith;
          };
          asks = record { which = inr refl; waits = inl keeps };
        }

    pub foremosts_counted :
        b ≡ false → (table' area' : List ℕ) (r : Option ℕ) → Throughs bs n t terms s z z table mid table' area' r →
        Foremosts bs n t terms s z table area table' area' r
    unfolding foremost_through
    foremosts_counted e table' area' r f =
        record {
          answer = decide r f.answer;
          table_beyond = f.table_beyond;
          table_length = f.table_length;
          area_beyond = f.area_beyond ∙ area_same;
          area_length = f.area_length ∙ a.same_length;
        }
      where
        decide :
            (r : Option ℕ) → MatchOption r (Overfull bs n t terms s z) (ThroughsBy bs n t terms s z z table' area') →
            MatchOption r (appearance_too_many (plan_of bs n t terms) s ≡ true) (ForemostsBy bs n t terms s z table' area')
        decide None x =
            ⊎_elim (λ many. many) (λ x. absurd (let none = x.waits_for_none in let inside = ready.destination in omega arith)) x
        decide (Some k) x =
            let whole : walks_by (plan_of bs n t terms) s z k ≡ foremost_paths (plan_of bs n t terms) s z =
            ap (walks_by (plan_of bs n t terms) s z) x.settled.slot ∙ foremost_by_arrival bs n t terms ready.accepted s z in
            record {
              few = sym a.met ∙ e;
              slot = x.settled.slot;
              pair_hops = x.settled.pair_hops ∙ ap hops whole;
              pair_count = x.settled.pair_count ∙ ap count whole;
              counted = λ v h. x.counted v h ∙ ap (λ l. through_in (plan_of bs n t terms) s z l v) whole;
            }

-- ---- the slot

pub slot_none : (slot h : ℕ) → h ≡ 65535 → 65535 ≡ slot_value slot h
unfolding slot_value
slot_none slot h e = sym (rw (eq-eqb h 65535 e))

pub slot_some : (slot h : ℕ) → h ≢ 65535 → slot ≡ slot_value slot h
unfolding slot_value
slot_some slot h d = sym (rw (ne_eqb h 65535 d))

-- ---- the answer

module _ (bs : List ℕ) (n t : ℕ) (terms : Terms) (s z : ℕ) (table area : List ℕ) (ready : PairReady bs n t terms s z table area)
    (table' area' : List ℕ) where
  -- too many: both are cleared
  pub foremost_refused :
      Foremosts bs n t terms s z table area table' area' None → (table'' area'' : List ℕ) → table'' ≡ over (replicate n 0) table' →
      area'' ≡ over (replicate (work_size n t) 0) area' →
      ◌≡◌ {A = Outcome ForemostValues PairBuffers}
      (record { number = 9; values = record { slot = 0; hops = 0; count = 0 }; buffers = pair_buffers table'' area'' })
      (foremost_paired (plan_of bs n t terms) s z (pair_buffers table area))
  unfolding foremost_paired cleared plan_of
  foremost_refused f table'' area'' a b =
      let many = f.answer in
      let c = fill_beyond n 0 table' table f.table_beyond in
      let d = fill_beyond (work_size n t) 0 area' area f.area_beyond in
      rw many (cc (a, b, c, d))

  -- the slot of the answer is the arrival
  arrival_is :
      (r : ℕ) → ForemostsBy bs n t terms s z table' area' r →
      slot_value r (hops (foremost_paths (plan_of bs n t terms) s z)) ≡ arrival (plan_of bs n t terms) s z
  unfolding plan_of
  arrival_is r x = go (arrival_or_never (plan_of bs n t terms) (slots_within bs n t terms ready.accepted) s z)
    where
      go :
          Arrival (plan_of bs n t terms) (slots_within bs n t terms ready.accepted) s z →
          slot_value r (hops (foremost_paths (plan_of bs n t terms) s z)) ≡ arrival (plan_of bs n t terms) s z
      go (never e none-there) =
          sym (slot_none r (hops (foremost_paths (plan_of bs n t terms) s z)) (hops_empty _ empty)) ∙ sym e
        where
          empty : foremost_paths (plan_of bs n t terms) s z ≡ []
          empty = foremost_none (plan_of bs n t terms) (slots_within bs n t terms ready.accepted) s z none-there
      go (arrives h reached) =
          let slot = x.slot in
          let first : r ≡ arrival (plan_of bs n t terms) s z = omega arith in
          sym (slot_some r (hops (foremost_paths (plan_of bs n t terms) s z)) (λ many. absurd (some_path many))) ∙ first
        where
          some_path : hops (foremost_paths (plan_of bs n t terms) s z) ≡ 65535 → ⊥
          some_path many = foremost_few bs n t terms ready.accepted s z reached many

  -- counted: the table has the through counts, the work area is cleared
  pub foremost_counted :
      (r : ℕ) → Foremosts bs n t terms s z table area table' area' (Some r) → (e h k : ℕ) (area'' : List ℕ) → e ≡ slot_value r h → h ≡ get_or area' z 0 → k ≡ get_or area' (n + z) 0 →
      area'' ≡ over (replicate (work_size n t) 0) area' →
      ◌≡◌ {A = Outcome ForemostValues PairBuffers}
      (record { number = 0; values = record { slot = e; hops = h; count = k }; buffers = pair_buffers table' area'' })
      (foremost_paired (plan_of bs n t terms) s z (pair_buffers table area))
  unfolding foremost_paired cleared plan_of
  foremost_counted r f e h k area'' i a b c =
      let few = f.answer.few in
      let ph = a ∙ f.answer.pair_hops in
      let pc = b ∙ f.answer.pair_count in
      let ps = i ∙ ap (slot_value r) ph ∙ arrival_is r f.answer in
      let d = fill_beyond (work_size n t) 0 area' area f.area_beyond in
      let th : table' ≡ over (map (foremost_through (plan_of bs n t terms) s z) (below n)) table =
      over_by n table' (map (foremost_through (plan_of bs n t terms) s z) (below n)) table (length_made _ n)
      (let size = f.table_length in let tables = ready.table in omega arith)
      (λ v inside. f.answer.counted v inside ∙ sym (get_d_made_law _ n v inside)) f.table_beyond in
      rw few (cc (ps, ph, pc, c, d, th))

-- ---- how the operation begins

module _ (bs : List ℕ) (n t : ℕ) (terms : Terms) (s z : ℕ) (table area : List ℕ) where
  abbrev zeros : ForemostValues
  zeros = record { slot = 0; hops = 0; count = 0 }

  -- a plan that check refuses
  pub foremost_plan :
      (r : Result (Unit {0}) PlanFault) (f : PlanFault) → check_number r ≡ plan_fault bs n t → r ≡ Err f →
      ◌≡◌ {A = Outcome ForemostValues PairBuffers}
      (record { number = plan_number f; values = zeros; buffers = pair_buffers table area })
      (foremost bs n t terms s z (pair_buffers table area))
  unfolding foremost
  foremost_plan = begins_plan bs n t terms s z table area zeros (foremost_paired (plan_of bs n t terms) s z (pair_buffers table area))

  module _ (ok : plan_fault bs n t ≡ 0) (r : Result (Unit {0}) CallFault)
      (answer : call_check_number r ≡ pair_call_fault n t terms s z (length table) n (length area)) where
    -- 12, 6, 7 or 8
    pub foremost_call :
        (f : CallFault) → r ≡ Err f →
        ◌≡◌ {A = Outcome ForemostValues PairBuffers}
        (record { number = call_number f; values = zeros; buffers = pair_buffers table area })
        (foremost bs n t terms s z (pair_buffers table area))
    unfolding foremost
    foremost_call =
        begins_call bs n t terms s z table area zeros (foremost_paired (plan_of bs n t terms) s z (pair_buffers table area)) ok r answer

    -- none of them
    pub foremost_works :
        r ≡ Ok tt →
        foremost bs n t terms s z (pair_buffers table area) ≡ foremost_paired (plan_of bs n t terms) s z (pair_buffers table area)
    unfolding foremost
    foremost_works =
        begins_works bs n t terms s z table area zeros (foremost_paired (plan_of bs n t terms) s z (pair_buffers table area)) ok r answer
