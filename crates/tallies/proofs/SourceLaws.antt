-- The sources below k: the tallies at the beginning, the loop over sources, and the tallies at its end.
-- Assumes nothing.
use Prim.Native.Nat.{ℕ, ◌+◌, ◌-◌, ◌*◌, ◌<◌, ◌≤◌}
use mathlib.Core.Path.{◌≡◌, refl, sym, ap, ◌∙◌, subst}
use mathlib.Core.Bool.{Bool, true, false}
use mathlib.Core.List.{List}
use mathlib.Core.Logic.{by_cases}
use native.Mathlib.Omega.{arith}
use native.Mathlib.Decide.{ℕ_discrete}
use native.Mathlib.Nat.{mul-le-mul_left}
use lib.ListN.{length, get_or, drop}
use Rattle.temporal.specs.Plan.{Terms, units}
use Rattle.temporal.specs.Lists.{below}
use Rattle.temporal.specs.Bytes.{plan_of}
use Rattle.temporal.specs.Cause.{is_too_many, too_many_below}
use Rattle.temporal.specs.Outcome.{work_size}
use Rattle.temporal.specs.Struck.{lacking_record}
use Rattle.walks.proofs.Accepted.{accepted}
use Rattle.walks.proofs.LackingLaws.{lacking_nothing}
use Rattle.lists.proofs.ListLaws.{any_true, any_false, mem_below}
use Rattle.memory.specs.Fill.{filled}
use Rattle.memory.proofs.FillLaws.{filled_length, filled_at, filled_beyond}
use Rattle.stale.specs.Depth.{DepthOf}
use Rattle.forward.specs.declared.Splits.{Splits}
use Rattle.forward.specs.Passed.{pass_size, most_columns, Lent, DepthReady, Knows, RefillReady}
use Rattle.forward.proofs.SizeLaws.{first_part, most_lent}
use Rattle.forward.proofs.WidthLaws.{one_fits}
use Rattle.tallies.specs.Tally.{block_of, tally_base, Tallyable, Tallied}
use Rattle.tallies.specs.Progress.{pair_term, load_term, TallyEntry, Kept}
use Rattle.tallies.specs.Sources.{SourceReady, SourceDone, AllReady}
use Rattle.tallies.proofs.TermLaws.{partly_none, pairs_partly, load_partly}
use Rattle.tallies.proofs.StateLaws.{kept_over, kept_same}
use Rattle.tallies.proofs.BlockLaws.{entry_later}
use Rattle.lists.proofs.BufferLaws.{later_drop}
use Rattle.tallies.proofs.Sizes.{base_fits, block_some, block_fits}

-- ---- before the sources

module _ (bs : List ℕ) (n t g h k : ℕ) (old : List ℕ) (asked : Tallyable bs n t (units g h) k old) where
  -- how many appearances are kept can be found
  pub depth_ready : DepthReady bs n t h old
  depth_ready =
      let turns = asked.units.turns in
      let keeps = asked.units.keeps in
      let room = asked.fits in
      record {
        accepted = asked.accepted;
        some = omega arith;
        most = asked.units.most;
        fits = let one = mul-le-mul_left {m = 1} {n = t + 1} n (omega arith) in omega arith;
      }

  module _ (mid : List ℕ) (d : ℕ) (found : DepthOf bs n h old mid d) where
    -- and how many columns fit
    pub columns_lent : Lent t (units g h) d (4 * (t + 1) - 2)
    columns_lent =
        let a = accepted bs n t asked.accepted in
        most_lent n t (units g h) d asked.units a.some_slot a.slots found.most

    -- the block and the base that are computed are those that are named
    pub all_ready : (base block : ℕ) → block ≡ most_columns n t (units g h) d (4 * (t + 1) - 2) → base ≡ tally_base n t
        → AllReady bs n t (units g h) d k base block mid
    unfolding block_of
    all_ready base block e f =
        let room = asked.fits in
        let same = found.same_length in
        record {
          asked = record { accepted = asked.accepted; sources = asked.sources; units = asked.units; fits = omega arith };
          deep = found.deep;
          kept = found.most;
          block_there = e;
          base_there = f;
        }

    -- what is promised then is promised from the entry on
    pub tallied_entry : (new : List ℕ) (r : Bool) → Tallied bs n t (units g h) k mid new r → Tallied bs n t (units g h) k old new r
    tallied_entry new r x =
        record {
          too_many = x.too_many;
          station_pairs = x.station_pairs;
          station_loads = x.station_loads;
          beyond = x.beyond ∙
              later_drop n (work_size n t) mid old (let one = mul-le-mul_left {m = 1} {n = t + 1} n (omega arith) in omega arith) found.beyond;
          same_length = x.same_length ∙ found.same_length;
        }

-- ---- a source of the whole plan, which lacks no record

pub source_whole : (bs : List ℕ) (n t : ℕ) (terms : Terms) (d base block s : ℕ) (work : List ℕ) →
    SourceReady bs n t terms d base block s work → SourceReady (lacking_record bs (length bs)) n t terms d base block s work
source_whole bs n t terms d base block s work x =
    subst (λ l. SourceReady l n t terms d base block s work) (sym (lacking_nothing bs)) x

pub done_whole : (bs : List ℕ) (n t : ℕ) (terms : Terms) (base s : ℕ) (old new : List ℕ) (r : Bool) →
    SourceDone (lacking_record bs (length bs)) n t terms base s old new r → SourceDone bs n t terms base s old new r
done_whole bs n t terms base s old new r x = subst (λ l. SourceDone l n t terms base s old new r) (lacking_nothing bs) x

-- what is known of the next sources can be found
pub source_refill : (bs : List ℕ) (n t : ℕ) (terms : Terms) (d base block s : ℕ) (work : List ℕ) → SourceReady bs n t terms d base block s work
    → (end : ℕ) (splits : Splits) → s < end → end ≤ n → Knows bs n t terms s end splits → RefillReady bs n t terms base s end splits work
source_refill bs n t terms d base block s work ready end splits source sources knows =
    record {
      accepted = ready.accepted;
      units = ready.units;
      source = source;
      sources = sources;
      room = one_fits n t terms d block base (omega arith) ready.area;
      fits = let f = ready.room.fits in omega arith;
      knows = knows;
    }

-- ---- the loop over sources

-- the sources below s are done, and no count from one of them is over 2^64 - 1
pub record Summing (bs : List ℕ) (n t : ℕ) (terms : Terms) (k base : ℕ) (old : List ℕ) (s : ℕ) (w : List ℕ) : Type 0 where
  pub within : s ≤ k
  pub few : (a : ℕ) → a < s → is_too_many (plan_of bs n t terms) a ≡ false
  pub summed : (v : ℕ) → v < n → TallyEntry (plan_of bs n t terms) n base s v 0 w
  pub kept : Kept n base old w

-- a list that agrees from base on has the same tallies
pub summing_kept : (bs : List ℕ) (n t : ℕ) (terms : Terms) (k base : ℕ) (old : List ℕ) (s : ℕ) (w : List ℕ) → Summing bs n t terms k base old s w
    → (x : List ℕ) → drop base x ≡ drop base w → length x ≡ length w → Summing bs n t terms k base old s x
summing_kept bs n t terms k base old s w f x beyond same =
    record {
      within = f.within;
      few = f.few;
      summed = λ v g. entry_later (plan_of bs n t terms) n base s v 0 base w x (omega arith) beyond (f.summed v g);
      kept =
          kept_over n base f.kept
          (record { beyond = later_drop base (base + 2 * n) x w (omega arith) beyond; same_length = same });
    }

module _ (bs : List ℕ) (n t : ℕ) (terms : Terms) (depth k base block : ℕ) (old : List ℕ)
    (pre : AllReady bs n t terms depth k base block old) where
  pub all_room : base + 2 * n ≤ length old
  all_room =
      let e = pre.base_there in
      let f = pre.asked.fits in
      omega (arith, base_fits n t)

  pub all_cleared : (w : List ℕ) → w ≡ filled old base (2 * n) 0 → AllReady bs n t terms depth k base block w
  all_cleared w e =
      record {
        asked =
            record {
              accepted = pre.asked.accepted;
              sources = pre.asked.sources;
              units = pre.asked.units;
              fits = let f = pre.asked.fits in omega (arith, ap length e, filled_length old base (2 * n) 0);
            };
        deep = pre.deep;
        kept = pre.kept;
        block_there = pre.block_there;
        base_there = pre.base_there;
      }

  -- cleared tallies hold the sums over no source
  pub summing_none : (w : List ℕ) → w ≡ filled old base (2 * n) 0 → Summing bs n t terms k base w 0 w
  summing_none w e =
      let p = plan_of bs n t terms in
      record {
        within = omega arith;
        few = λ a h. absurd (omega arith);
        summed = λ v h.
            record {
              pairs_there = zero_at_law v (omega arith) ∙ sym (partly_none (pair_term p v) n);
              load_there =
                  let place : base + n + v ≡ base + (n + v) = omega arith in
                  rw place (zero_at_law (n + v) (omega arith)) ∙ sym (partly_none (load_term p v) n);
            };
        kept = kept_same n base w;
      }
    where
      zero_at_law : (i : ℕ) → i < 2 * n → get_or w (base + i) 0 ≡ 0
      zero_at_law i h = ap (λ l. get_or l (base + i) 0) e ∙ filled_at old base (2 * n) 0 i h all_room

  kept_work : (w : List ℕ) → Kept n base old w → drop (work_size n t) w ≡ drop (work_size n t) old
  kept_work w kept =
      let e = pre.base_there in
      later_drop (base + 2 * n) (work_size n t) w old (omega (arith, base_fits n t)) kept.beyond

  module _ (s : ℕ) (w : List ℕ) (f : Summing bs n t terms k base old s w) where
    pub summing_ready : s < k → SourceReady bs n t terms depth base block s w
    summing_ready h =
        let a = accepted bs n t pre.asked.accepted in
        let e = pre.block_there in
        let some = block_some n t terms depth pre.asked.units a.some_slot a.slots pre.kept a.some_station in
        let there : pass_size n t terms depth block ≤ base =
        rw (e, pre.base_there) (block_fits n t terms depth pre.asked.units a.some_slot a.slots pre.kept) in
        record {
          accepted = pre.asked.accepted;
          source = let few = pre.asked.sources in omega arith;
          units = pre.asked.units;
          deep = pre.deep;
          some_block = omega arith;
          area = there;
          room =
              record {
                stations = a.stations;
                area = let first = first_part n t terms depth block in omega arith;
                fits = let l = f.kept.same_length in let r = all_room in omega arith;
              };
          summed = f.summed;
        }

    pub summing_over : s < k → (x : List ℕ) → SourceDone bs n t terms base s w x true → Tallied bs n t terms k old x true
    unfolding too_many_below plan_of
    summing_over h x d =
        let kept = kept_over n base f.kept d.kept in
        record {
          too_many =
              sym ((any_true (is_too_many (plan_of bs n t terms)) (below k)).1 (s, (mem_below k).1 h, sym d.too_many));
          station_pairs = λ e. absurd (let z : ◌≡◌ {A = ℕ} 0 1 = cc in omega arith);
          station_loads = λ e. absurd (let z : ◌≡◌ {A = ℕ} 0 1 = cc in omega arith);
          beyond = kept_work x kept;
          same_length = kept.same_length;
        }

    pub summing_more : s < k → (x : List ℕ) → SourceDone bs n t terms base s w x false → Summing bs n t terms k base old (s + 1) x
    summing_more h x d =
        record {
          within = omega arith;
          few = λ a g.
              by_cases (ℕ_discrete a s) (λ e. rw e (sym d.too_many)) (λ m. f.few a (omega arith));
          summed = d.summed refl;
          kept = kept_over n base f.kept d.kept;
        }

    pub summing_all : k ≤ s → Tallied bs n t terms k old w false
    unfolding too_many_below plan_of
    summing_all h =
        let p = plan_of bs n t terms in
        let all : s ≡ k = let g = f.within in omega arith in
        let entries = subst (λ y. (v : ℕ) → v < n → TallyEntry p n base y v 0 w) all f.summed in
        record {
          too_many =
              sym ((any_false (is_too_many p) (below k)).1 (λ a m. f.few a (let g = (mem_below k).0 m in omega arith)));
          station_pairs = λ e v g. rw (← pre.base_there) ((entries v g).pairs_there ∙ sym (pairs_partly p k v));
          station_loads = λ e v g. rw (← pre.base_there) ((entries v g).load_there ∙ sym (load_partly p k v));
          beyond = kept_work w f.kept;
          same_length = f.kept.same_length;
        }

  -- what is promised of the cleared list is promised of the list before
  pub tallied_cleared :
      (w x : List ℕ) (r : Bool) → w ≡ filled old base (2 * n) 0 → Tallied bs n t terms k w x r → Tallied bs n t terms k old x r
  tallied_cleared w x r e d =
      let same = ap length e ∙ filled_length old base (2 * n) 0 in
      record {
        too_many = d.too_many;
        station_pairs = d.station_pairs;
        station_loads = d.station_loads;
        beyond =
            d.beyond ∙
            kept_work w
            (record {
              beyond =
                  ap (drop (base + 2 * n)) e ∙ filled_beyond old base (2 * n) 0 (base + 2 * n) (omega arith);
              same_length = same;
            });
        same_length = d.same_length ∙ same;
      }
