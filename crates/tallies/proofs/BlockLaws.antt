-- One block of stations of one source: the pass, then all destinations; and the loop over a source's blocks.
-- Assumes nothing.
use Prim.Native.Nat.{ℕ, ◌+◌, ◌-◌, ◌*◌, ◌^◌, ◌<◌, ◌≤◌, min}
use mathlib.Core.Path.{◌≡◌, refl, sym, ap, ◌∙◌}
use mathlib.Core.Bool.{Bool, true, false, cond}
use mathlib.Core.List.{List}
use mathlib.Core.Logic.{by_cases, ◌≢◌}
use borrow.Author.Tests.{ltb-true, eqb-true}
use lib.Dec.{ltb, eqb}
use lib.Pow.{pow_pos}
use native.Mathlib.Omega.{arith}
use native.Mathlib.Decide.{dec_lt}
use native.Mathlib.Nat.{mul-le-mul_left, mul-pos}
use lib.ListN.{get_or, drop}
use lib.Seq.{get_or-drop}
use Rattle.temporal.specs.Plan.{Plan, Terms}
use Rattle.temporal.specs.Bytes.{plan_of}
use Rattle.temporal.specs.Cause.{is_too_many}
use Rattle.lists.proofs.BufferLaws.{later_drop}
use Rattle.pass.specs.Column.{lanes_by, columns_in}
use Rattle.std.specs.Prelude.{Result, Ok, Err}
use Rattle.forward.specs.declared.Unpacked.{Unpacked}
use Rattle.forward.specs.declared.Unpacked.TheVariants as unpacked
use Rattle.forward.specs.Passed.{pass_size, Counted, PackedReady, PackedAs, PackedPassed, Known}
use Rattle.forward.proofs.SizeLaws.{size_less}
use Rattle.tallies.specs.Progress.{pair_term, load_term, TallyEntry, State, Kept, Rows, rows_of, Working, Workable, DestinationsAdded}
use Rattle.tallies.specs.Sources.{BlockReady, BlockEnd, BlockDone, SourceReady, SourceDone, EntriesNext}
use Rattle.tallies.proofs.TermLaws.{partly_source}
use Rattle.tallies.proofs.StateLaws.{kept_over, kept_same, working_again}

-- lists that agree from a on agree at every later place
pub later_same : (a i : ℕ) (x y : List ℕ) → a ≤ i → drop a x ≡ drop a y → get_or x i 0 ≡ get_or y i 0
later_same a i x y h e =
    let place : i ≡ a + (i - a) = omega arith in
    rw place (sym (get_or-drop a x (i - a) 0) ∙ ap (λ l. get_or l (i - a) 0) e ∙ get_or-drop a y (i - a) 0)

-- the same tallies stand in a list that agrees from a place before them on
pub entry_later : (p : Plan) (n base s v k a : ℕ) (x y : List ℕ) → a ≤ base → drop a y ≡ drop a x → TallyEntry p n base s v k x
    → TallyEntry p n base s v k y
entry_later p n base s v k a x y h e q =
    record {
      pairs_there = later_same a (base + v) y x (omega arith) e ∙ q.pairs_there;
      load_there = later_same a (base + n + v) y x (omega arith) e ∙ q.load_there;
    }

module _ (p : Plan) (n base s low : ℕ) where
  -- and so do those of all stations
  state_later : (a block : ℕ) (x y : List ℕ) → a ≤ base → low + block ≤ n → drop a y ≡ drop a x → State p n base s low 0 0 0 x
      → State p n base s low block 0 0 y
  state_later a block x y h inside e f =
      record {
        done = λ v g. entry v n (f.done v g);
        ahead = λ v g l. absurd (omega arith);
        here = λ v g l. entry v 0 (f.later v (omega arith) (omega arith));
        later = λ v g l. entry v 0 (f.later v (omega arith) l);
      }
    where
      entry : (v k : ℕ) → TallyEntry p n base s v k x → TallyEntry p n base s v k y
      entry v k q = entry_later p n base s v k a x y h e q

  -- a block to which all destinations are added is done
  state_done : (block : ℕ) (w : List ℕ) → State p n base s low block n 0 w → State p n base s (low + block) 0 0 0 w
  state_done block w f =
      record {
        done = λ v g.
            by_cases (dec_lt v low) (f.done v) (λ d. f.here v (omega arith) g);
        ahead = λ v g l. absurd (omega arith);
        here = λ v g l. absurd (omega arith);
        later = λ v g l. f.later v (omega arith) l;
      }

module _ (bs : List ℕ) (n t : ℕ) (terms : Terms) (d base s low : ℕ) (rows : Rows) (old : List ℕ)
    (pre : BlockReady bs n t terms d base s low rows old) where
  -- the pass can run
  pub block_ready : PackedReady bs n t terms d s rows.entries rows.split old
  block_ready =
      record {
        accepted = pre.accepted;
        units = pre.units;
        deep = pre.deep;
        source = pre.source;
        fits = let r = pre.room in let a = pre.area in omega arith;
        few = pre.few;
      }

  module _ (mid : List ℕ) (r : Result Unit Unpacked) (q : PackedPassed bs n t terms d s low rows.entries rows.split old mid r) where
    passed_kept : Kept n base old mid
    passed_kept =
        record {
          beyond =
              later_drop (pass_size n t terms d rows.entries) (base + 2 * n) mid old (let m = pre.area in omega arith) q.beyond;
          same_length = q.same_length;
        }

    -- where a count is over 2^64 - 1, and where one does not fit its lane
    pub block_stopped : (f : Unpacked) → r ≡ Err f → BlockDone bs n t terms base s low rows old mid (Err f)
    unfolding BlockEnd PackedAs
    block_stopped unpacked.TooMany is = record { ends = rw is at q.ends; kept = passed_kept }
    block_stopped unpacked.TooWide is =
        record {
          ends = (
            rw is at q.ends,
            state_later (plan_of bs n t terms) n base s low (pass_size n t terms d rows.entries) 0 old mid pre.area
                (let i = pre.inside in omega arith) q.beyond pre.state,
          );
          kept = passed_kept;
        }

    module _ (e : Unit) (is : r ≡ Ok e) where
      counted_end : PackedAs bs n t terms s low rows.entries rows.split mid (Ok e)
      counted_end = rw is at q.ends

      block_working : Working bs n t terms base s low rows 0 0 old mid
      unfolding PackedAs
      block_working =
          record {
            accepted = pre.accepted;
            source = pre.source;
            inside = pre.inside;
            columns = pre.columns;
            few = pre.few;
            room =
                record {
                  stations = pre.room.stations;
                  area = pre.room.area;
                  fits = let f = pre.room.fits in let l = q.same_length in omega arith;
                };
            counted = counted_end.1;
            state =
                state_later (plan_of bs n t terms) n base s low (pass_size n t terms d rows.entries) rows.stations old mid pre.area
                pre.inside q.beyond pre.state;
            kept = passed_kept;
          }

      -- the destinations can be added
      pub block_workable : Workable n base s low rows 0 mid
      block_workable =
          record { plan = bs; slots = t; terms = terms; working = working_again bs n t terms base s low rows block_working }

      -- the block is done
      pub block_done : (new : List ℕ) → DestinationsAdded n base s low rows 0 n mid new
          → BlockDone bs n t terms base s low rows old new (Ok tt)
      unfolding BlockEnd PackedAs
      block_done new a =
          let w = a.working bs t terms (working_again bs n t terms base s low rows block_working) in
          record {
            ends = (counted_end.0, state_done (plan_of bs n t terms) n base s low rows.stations new w.state, w.counted.stations);
            kept = kept_over n base block_working.kept w.kept;
          }

-- ---- the loop over blocks

-- the stations below low are done; where there are some, no count from the source is over 2^64 - 1
pub record Blocking (bs : List ℕ) (n t : ℕ) (terms : Terms) (base s : ℕ) (old : List ℕ) (low : ℕ) (w : List ℕ) : Type 0 where
  pub within : low ≤ n
  pub few : 0 < low → is_too_many (plan_of bs n t terms) s ≡ false
  pub state : State (plan_of bs n t terms) n base s low 0 0 0 w
  pub stations : n ≤ low → Counted bs n t terms s 0 0 w
  pub kept : Kept n base old w

module _ (bs : List ℕ) (n t : ℕ) (terms : Terms) (d base block s : ℕ) (old : List ℕ) (pre : SourceReady bs n t terms d base block s old) where
  pub blocking_none : Blocking bs n t terms base s old 0 old
  blocking_none =
      record {
        within = omega arith;
        few = λ h. absurd (omega arith);
        state =
            record {
              done = λ v g. absurd (omega arith);
              ahead = λ v g l. absurd (omega arith);
              here = λ v g l. absurd (omega arith);
              later = λ v g l. pre.summed v l;
            };
        stations = λ h. absurd (let g = pre.source in omega arith);
        kept = kept_same n base old;
      }

  module _ (low : ℕ) (w : List ℕ) (f : Blocking bs n t terms base s old low w) where
    module _ (known : Bool) (split entries stations : ℕ) (few : split ≤ 3) (for : EntriesNext known (n - low) block split entries)
        (least : stations ≡ min (entries * 2 ^ split) (n - low)) (h : low < n) where
      pub some_stations : known ≡ true → 0 < stations
      some_stations is =
          let some = for.some is (omega arith) pre.some_block in
          let lanes = pow_pos split in
          omega (arith, mul-pos some lanes)

      in_columns : stations ≤ columns_in (lanes_by split) entries
      in_columns = go (eqb (2 ^ split) 1) refl
        where
          go : (b : Bool) → eqb (2 ^ split) 1 ≡ b → stations ≤ cond b entries (entries * 2 ^ split)
          go true q = let one = eqb-true (2 ^ split) 1 q in let same : entries * 2 ^ split ≡ entries = rw one (omega arith) in omega arith
          go false q = omega arith

      pub blocking_ready : BlockReady bs n t terms d base s low (rows_of stations entries split) w
      blocking_ready =
          let r = pre.room in
          let small = for.most in
          record {
            accepted = pre.accepted;
            source = pre.source;
            units = pre.units;
            deep = pre.deep;
            inside = omega arith;
            columns = in_columns;
            few = few;
            area = let a = pre.area in omega (arith, size_less n t terms d entries block small);
            room =
                record {
                  stations = r.stations;
                  area = omega (arith, mul-le-mul_left n small, r.area);
                  fits = let l = f.kept.same_length in omega (arith, r.fits);
                };
            state = f.state;
          }

      module _ (x : List ℕ) where
        pub blocking_over : BlockDone bs n t terms base s low (rows_of stations entries split) w x (Err unpacked.TooMany) → SourceDone bs n t terms base s old x true
        unfolding BlockEnd
        blocking_over done =
            record {
              too_many = sym done.ends;
              summed = λ e. absurd (let z : ◌≡◌ {A = ℕ} 0 1 = cc in omega arith);
              stations = λ e. absurd (let z : ◌≡◌ {A = ℕ} 0 1 = cc in omega arith);
              kept = kept_over n base f.kept done.kept;
            }

        pub blocking_more : BlockDone bs n t terms base s low (rows_of stations entries split) w x (Ok tt)
            → Blocking bs n t terms base s old (low + stations) x
        unfolding BlockEnd
        blocking_more done =
            record {
              within = omega arith;
              few = λ g. done.ends.0;
              state = done.ends.1;
              stations = λ g. done.ends.2;
              kept = kept_over n base f.kept done.kept;
            }

        -- cause 9 does not hold
        pub blocking_known : BlockDone bs n t terms base s low (rows_of stations entries split) w x (Ok tt) → is_too_many (plan_of bs n t terms) s ≡ false
        unfolding BlockEnd
        blocking_known done = done.ends.0

        -- the same block again, with half as many stations to an entry
        pub blocking_again : BlockDone bs n t terms base s low (rows_of stations entries split) w x (Err unpacked.TooWide)
            → (split ≢ 0) × Blocking bs n t terms base s old low x
        unfolding BlockEnd
        blocking_again done = (
          done.ends.0,
          record {
            within = f.within;
            few = f.few;
            state = done.ends.1;
            stations = λ g. absurd (omega arith);
            kept = kept_over n base f.kept done.kept;
          },
        )

    pub blocking_all : n ≤ low → SourceDone bs n t terms base s old w false
    blocking_all h =
        let p = plan_of bs n t terms in
        record {
          too_many = sym (f.few (let g = pre.source in omega arith));
          summed = λ e v l.
              let q = f.state.done v (omega arith) in
              record {
                pairs_there = q.pairs_there ∙ partly_source (pair_term p v) n s;
                load_there = q.load_there ∙ partly_source (load_term p v) n s;
              };
          stations = λ e. f.stations h;
          kept = f.kept;
        }

-- what is known of a source with a split
pub known_few : (bs : List ℕ) (n t : ℕ) (terms : Terms) (s width : ℕ) → Known bs n t terms s width → ltb 0 width ≡ true
    → is_too_many (plan_of bs n t terms) s ≡ false
known_few bs n t terms s width known is = known.few_walks (λ e. omega (arith, ltb-true 0 width is))
