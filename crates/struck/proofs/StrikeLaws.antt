-- One source without the record and compared, and the loop over sources. Assumes nothing.
use Prim.Native.Nat.{ℕ, ◌+◌, ◌-◌, ◌*◌, ◌<◌, ◌≤◌}
use native.Mathlib.Omega.{arith}
use native.Mathlib.Decide.{ℕ_discrete}
use native.Mathlib.Numerals.{add-one}
use native.Mathlib.Nat.{mul-le-mul, mul-le-mul_left, mul-le-mul_right, mul-add}
use mathlib.Core.Path.{◌≡◌, refl, sym, ap, ap₂, ◌∙◌}
use mathlib.Core.Bool.{Bool, true, false, cond, ◌||◌}
use mathlib.Core.List.{List, map}
use mathlib.Core.Logic.{⊎_elim, by_cases}
use lib.ListN.{length, drop}
use Rattle.temporal.specs.Lists.{from, below, sum}
use Rattle.temporal.specs.Plan.{Plan, Terms, units}
use Rattle.temporal.specs.Bytes.{plan_of}
use Rattle.temporal.specs.Cause.{is_too_many, too_many_below, too_many_anywhere}
use Rattle.temporal.specs.Load.{ends_below, load}
use Rattle.temporal.specs.Outcome.{work_size}
use Rattle.temporal.specs.Struck.{struck_out, lacking_record, is_user, pairs_using}
use Rattle.temporal.specs.OutcomeStruck.{either_too_many}
use Rattle.walks.proofs.Accepted.{accepted}
use Rattle.lists.proofs.BufferLaws.{later_drop}
use Rattle.walks.proofs.LackingLaws.{lacking_accepted, lacking_plan}
use Rattle.lists.proofs.ListLaws.{any_true, any_false, mem_below, length_below, length_select}
use Rattle.counting.proofs.ExactSum.{sum_at_most}
use Rattle.counting.proofs.PartialLaws.{over_destinations, sum_ends}
use Rattle.counting.proofs.SumLaws.{sum_below_suc}
use Rattle.memory.specs.Fill.{filled}
use Rattle.memory.proofs.FillLaws.{filled_length, filled_beyond}
use Rattle.pass.specs.PassedColumns.{waiting}
use Rattle.stale.specs.Depth.{DepthOf}
use Rattle.stale.proofs.LackingDepth.{deep_lacking}
use Rattle.forward.specs.declared.Splits.{Splits}
use Rattle.forward.specs.Passed.{pass_size, most_columns, Lent, DepthReady, Knows, RefillReady}
use Rattle.forward.proofs.SizeLaws.{kept_or_not, size_kept, size_window, size_less}
use Rattle.tallies.specs.Tally.{block_of, tally_base, Tallyable}
use Rattle.tallies.specs.Progress.{ends, TallyEntry, Kept}
use Rattle.tallies.specs.Sources.{SourceDone}
use Rattle.tallies.specs.Sources.{AllReady as TalliesReady}
use Rattle.tallies.proofs.BlockLaws.{later_same}
use Rattle.tallies.proofs.Sizes.{base_fits}
use Rattle.tallies.proofs.StateLaws.{kept_over}
use Rattle.tallies.proofs.SourceLaws.{Summing, summing_none, summing_ready, summing_kept, summing_all, source_refill, depth_ready, columns_lent}
use Rattle.std.specs.Prelude.{Option, Some, None}
use Rattle.struck.specs.Work.{users_from, CompareReady, ComparedAs, Compared, OneReady, StruckAs, OneStruck, AllAsked, AllReady}
use Rattle.struck.specs.Work.{AllAs, AllStruck}

-- a second Boolean that holds
pub or_second : (b : Bool) → (b || true) ≡ true
or_second true = refl
or_second false = refl

-- neither holds
pub or_neither : (a b : Bool) → a ≡ false → b ≡ false → (a || b) ≡ false
or_neither a b e f = rw (e, f)

-- ---- one source

module _ (bs : List ℕ) (i n t : ℕ) (terms : Terms) (d base block s : ℕ) (old : List ℕ)
    (ready : OneReady bs i n t terms d base block s old) (mid : List ℕ) where
  -- too many without the record
  pub one_over : SourceDone (lacking_record bs i) n t terms base s old mid true → OneStruck bs i n t terms base s old mid None
  unfolding StruckAs
  one_over x =
      record {
        answer = rw (← x.too_many) (or_second (is_too_many (plan_of bs n t terms) s));
        kept = x.kept;
      }

  module _ (x : SourceDone (lacking_record bs i) n t terms base s old mid false) where
    -- comparing can begin
    pub one_compare : CompareReady bs i n t terms d (base - 2 * n) s mid
    one_compare =
        let area = ready.area in
        let apart = ready.apart in
        let fits = ready.without.room.fits in
        let same = x.kept.same_length in
        record {
          accepted = ready.accepted;
          units = ready.without.units;
          deep = ready.deep;
          source = ready.without.source;
          area = omega arith;
          room = record { apart = omega arith; fits = omega arith };
          stations = x.stations refl;
        }

    module _ (new : List ℕ) where
      base_same : base - 2 * n + 2 * n ≡ base
      base_same = let apart = ready.apart in omega arith

      new_kept : drop (base - 2 * n + 2 * n) new ≡ drop (base - 2 * n + 2 * n) mid → length new ≡ length mid → Kept n base old new
      new_kept beyond same =
          kept_over n base x.kept
          (record {
            beyond = later_drop (base - 2 * n + 2 * n) (base + 2 * n) new mid (let e = base_same in omega arith) beyond;
            same_length = same;
          })

      pub one_struck : (r : Option ℕ) → Compared bs i n t terms (base - 2 * n) s mid new r → OneStruck bs i n t terms base s old new r
      unfolding ComparedAs StruckAs
      one_struck None c =
          record { answer = rw c.answer; kept = new_kept c.beyond c.same_length }
      one_struck (Some k) c =
          record {
            answer = (
              or_neither _ _ c.answer.0 (sym x.too_many),
              (c.answer.1, λ v h. entry v (x.summed refl v h)),
            );
            kept = new_kept c.beyond c.same_length;
          }
        where
          entry : (v : ℕ) → TallyEntry (plan_of (lacking_record bs i) n t terms) n base (s + 1) v 0 mid →
              TallyEntry (plan_of (lacking_record bs i) n t terms) n base (s + 1) v 0 new
          entry v q =
              let e = base_same in
              record {
                pairs_there = later_same (base - 2 * n + 2 * n) (base + v) new mid (omega arith) c.beyond ∙ q.pairs_there;
                load_there = later_same (base - 2 * n + 2 * n) (base + n + v) new mid (omega arith) c.beyond ∙ q.load_there;
              }

-- ---- room for comparing

-- with a column the pass takes two entries a station more than without
column_more : (n t : ℕ) (terms : Terms) (d : ℕ) → 0 < waiting t terms → pass_size n t terms d 0 + 2 * n ≤ pass_size n t terms d 1
column_more n t terms d some =
    ⊎_elim
    (λ kept.
    let a = size_kept n t terms d 0 kept in
    let b = size_kept n t terms d 1 kept in
    let two : 2 * n ≤ (1 + waiting t terms) * n = mul-le-mul_right n (omega arith) in
    let parts : (1 + waiting t terms) * (2 * n + n * 1) ≡ (1 + waiting t terms) * (2 * n + n * 0) + (1 + waiting t terms) * n =
    apart (1 + waiting t terms) in
    omega arith)
    (λ over.
    let a = size_window n t terms d 0 over in
    let b = size_window n t terms d 1 over in
    let two : 2 * n ≤ (3 + d) * n = mul-le-mul_right n (omega arith) in
    let parts : (3 + d) * (2 * n + n * 1) ≡ (3 + d) * (2 * n + n * 0) + (3 + d) * n = apart (3 + d) in
    omega arith)
    (kept_or_not t terms)
  where
    apart : (k : ℕ) → k * (2 * n + n * 1) ≡ k * (2 * n + n * 0) + k * n
    apart k =
        let one : 2 * n + n * 1 ≡ 2 * n + n * 0 + n = omega arith in
        ap (◌*◌ k) one ∙ mul-add k (2 * n + n * 0) n

-- ---- the loop over sources

-- the sources before s are done: tallied without the record, compared, and none of them has too many
pub record Striking (bs : List ℕ) (i n t : ℕ) (terms : Terms) (base : ℕ) (old : List ℕ) (s : ℕ) (w : List ℕ) (pairs : ℕ) : Type 0 where
  pub summing : Summing (lacking_record bs i) n t terms n base old s w
  pub few : (a : ℕ) → a < s → is_too_many (plan_of bs n t terms) a ≡ false
  pub counted : pairs ≡ sum (map (users_from (plan_of bs n t terms) i) (below s))
  pub small : pairs ≤ s * n

-- a source has at most n users
pub users_few : (p : Plan) (i s : ℕ) → users_from p i s ≤ p.stations
unfolding users_from
users_few p i s =
    let most = sum_at_most (λ z. cond (is_user p i (ends s z)) 1 0) 1 (λ z. one (is_user p i (ends s z))) (below p.stations) in
    let size = length_below p.stations in
    let most' = rw length_below at most in
    omega arith
  where
    one : (b : Bool) → cond b 1 0 ≤ 1
    one true = omega arith
    one false = omega arith

-- the pairs that use the contact, summed up over the sources
pub users_all : (p : Plan) (i : ℕ) → length (pairs_using p i) ≡ sum (map (users_from p i) (below p.stations))
unfolding pairs_using users_from over_destinations
users_all p i =
    length_select (is_user p i) (ends_below p.stations p.stations) ∙
    sum_ends (λ e. cond (is_user p i e) 1 0) p.stations p.stations

module _ (bs : List ℕ) (i n t : ℕ) (terms : Terms) (d base block : ℕ) (old : List ℕ) (pre : AllReady bs n t terms d base block old) where
  -- what the tallies ask, without the record
  without : TalliesReady (lacking_record bs i) n t terms d n base block old
  without =
      record {
        asked = record {
          accepted = lacking_accepted bs n t pre.asked.accepted i;
          sources = omega arith;
          units = pre.asked.units;
          fits = pre.asked.fits;
        };
        deep = deep_lacking bs n t terms.keeping pre.asked.accepted i d pre.deep;
        kept = pre.kept;
        block_there = pre.block_there;
        base_there = pre.base_there;
      }

  pub striking_room : base + 2 * n ≤ length old
  striking_room = let e = pre.base_there in let f = pre.asked.fits in omega (arith, base_fits n t)

  pub striking_cleared : (w : List ℕ) → w ≡ filled old base (2 * n) 0 → AllReady bs n t terms d base block w
  striking_cleared w e =
      record {
        asked = record {
          accepted = pre.asked.accepted;
          units = pre.asked.units;
          fits = let f = pre.asked.fits in omega (arith, ap length e, filled_length old base (2 * n) 0);
        };
        deep = pre.deep;
        kept = pre.kept;
        block_there = pre.block_there;
        base_there = pre.base_there;
      }

  pub striking_none : (w : List ℕ) → w ≡ filled old base (2 * n) 0 → Striking bs i n t terms base w 0 w 0
  unfolding sum below from
  striking_none w e =
      record {
        summing = summing_none (lacking_record bs i) n t terms d n base block old without w e;
        few = λ a h. absurd (omega arith);
        counted = refl;
        small = omega arith;
      }

  kept_work : (w : List ℕ) → Kept n base old w → drop (work_size n t) w ≡ drop (work_size n t) old
  kept_work w kept =
      let e = pre.base_there in
      later_drop (base + 2 * n) (work_size n t) w old (omega (arith, base_fits n t)) kept.beyond

  module _ (s : ℕ) (w : List ℕ) (pairs : ℕ) (f : Striking bs i n t terms base old s w pairs) where
    pub striking_ready : s < n → OneReady bs i n t terms d base block s w
    unfolding tally_base
    striking_ready h =
        let a = accepted bs n t pre.asked.accepted in
        let there = pre.base_there in
        let slots = a.some_slot in
        let one = summing_ready (lacking_record bs i) n t terms d n base block old without s w f.summing h in
        let area = one.area in
        let turns = pre.asked.units.turns in
        let more = column_more n t terms d (omega arith) in
        let less = size_less n t terms d 1 block (let some = one.some_block in omega arith) in
        let six : 6 * n ≤ (4 * (t + 1) - 2) * n = mul-le-mul_right n (omega arith) in
        record { accepted = pre.asked.accepted; deep = pre.deep; area = omega arith; apart = omega arith; without = one }

    -- what is known of the next sources can be found
    pub striking_refill : s < n → (splits : Splits) → Knows (lacking_record bs i) n t terms s n splits
        → RefillReady (lacking_record bs i) n t terms base s n splits w
    striking_refill h splits knows =
        source_refill (lacking_record bs i) n t terms d base block s w (striking_ready h).without n splits h (omega arith) knows

    -- and the tallies stay
    pub striking_kept : (x : List ℕ) → drop base x ≡ drop base w → length x ≡ length w → Striking bs i n t terms base old s x pairs
    striking_kept x beyond same =
        record {
          summing = summing_kept (lacking_record bs i) n t terms n base old s w f.summing x beyond same;
          few = f.few;
          counted = f.counted;
          small = f.small;
        }

    pub striking_over : s < n → (x : List ℕ) → OneStruck bs i n t terms base s w x None →
        AllStruck bs i n t terms old x None
    unfolding StruckAs AllAs too_many_below plan_of struck_out
    striking_over h x o =
        let kept = kept_over n base f.summing.kept o.kept in
        record {
          answer = either (is_too_many (plan_of bs n t terms) s) (is_too_many (plan_of (lacking_record bs i) n t terms) s) refl refl o.answer;
          beyond = kept_work x kept;
          same_length = kept.same_length;
        }
      where
        either : (a b : Bool) → a ≡ is_too_many (plan_of bs n t terms) s → b ≡ is_too_many (plan_of (lacking_record bs i) n t terms) s → (a || b) ≡ true →
            either_too_many (plan_of bs n t terms) i ≡ true
        either true b e g q = rw ((any_true (is_too_many (plan_of bs n t terms)) (below n)).1 (s, (mem_below n).1 h, sym e))
        either false true e g q =
            let plans = lacking_plan bs n t terms i in
            let there = (any_true (is_too_many (struck_out (plan_of bs n t terms) i)) (below n)).1
            (s, (mem_below n).1 h, ap (λ l. is_too_many l s) (sym plans) ∙ sym g) in
            rw there (or_second (too_many_anywhere (plan_of bs n t terms)))
        either false false e g q = absurd (let z : ◌≡◌ {A = ℕ} 0 1 = cc in omega arith)

    pub striking_fits : s < n → (k : ℕ) (x : List ℕ) → OneStruck bs i n t terms base s w x (Some k) → pairs + k ≤ (s + 1) * n
    unfolding StruckAs plan_of
    striking_fits h k x o =
        let few = users_few (plan_of bs n t terms) i s in
        let is = o.answer.1.0 in
        let small = f.small in
        let next : (s + 1) * n ≡ s * n + n = omega arith in
        omega arith

    pub striking_small : s < n → (k : ℕ) (x : List ℕ) → OneStruck bs i n t terms base s w x (Some k) → pairs + k ≤ 65536
    striking_small h k x o =
        let few = (accepted bs n t pre.asked.accepted).stations in
        let next : s + 1 ≤ 256 = omega arith in
        let most : (s + 1) * n ≤ 256 * 256 = mul-le-mul next few in
        let less = striking_fits h k x o in
        omega arith

    pub striking_more : s < n → (k : ℕ) (x : List ℕ) → OneStruck bs i n t terms base s w x (Some k) →
        Striking bs i n t terms base old (s + 1) x (pairs + k)
    unfolding StruckAs
    striking_more h k x o =
        let both : (is_too_many (plan_of bs n t terms) s ≡ false) × (is_too_many (plan_of (lacking_record bs i) n t terms) s ≡ false) =
        neither _ _ o.answer.0 in
        record {
          summing = record {
            within = omega arith;
            few = λ a g. by_cases (ℕ_discrete a s) (λ e. rw e both.1) (λ m. f.summing.few a (omega arith));
            summed = o.answer.1.1;
            kept = kept_over n base f.summing.kept o.kept;
          };
          few = λ a g. by_cases (ℕ_discrete a s) (λ e. rw e both.0) (λ m. f.few a (omega arith));
          counted = rw add-one (ap₂ ◌+◌ f.counted o.answer.1.0 ∙ sym (sum_below_suc (users_from (plan_of bs n t terms) i) s));
          small = striking_fits h k x o;
        }
      where
        neither : (a b : Bool) → (a || b) ≡ false → (a ≡ false) × (b ≡ false)
        neither true b q = absurd (let z : ◌≡◌ {A = ℕ} 0 1 = cc in omega arith)
        neither false b q = (refl, q)

    pub striking_all : n ≤ s → AllStruck bs i n t terms old w (Some pairs)
    unfolding AllAs too_many_below plan_of struck_out
    striking_all h =
        let p = plan_of bs n t terms in
        let all : s ≡ n = let g = f.summing.within in omega arith in
        let plans = lacking_plan bs n t terms i in
        let tallied = summing_all (lacking_record bs i) n t terms d n base block old without s w f.summing (omega arith) in
        let clear = (any_false (is_too_many p) (below n)).1 (λ a m. f.few a (let g = (mem_below n).0 m in omega arith)) in
        let clear' : too_many_anywhere (struck_out p i) ≡ false = ap (λ q. too_many_below q n) (sym plans) ∙ sym tallied.too_many in
        record {
          answer = (
            or_neither _ _ clear clear',
            (
              f.counted ∙ ap (λ k. sum (map (users_from p i) (below k))) all ∙ sym (users_all p i),
              λ v g. tallied.station_loads refl v g ∙ ap (λ q. load q v) plans,
            ),
          );
          beyond = tallied.beyond;
          same_length = tallied.same_length;
        }

  -- what is promised of the cleared list is promised of the list before
  pub struck_cleared : (w x : List ℕ) (r : Option ℕ) → w ≡ filled old base (2 * n) 0 → AllStruck bs i n t terms w x r →
      AllStruck bs i n t terms old x r
  struck_cleared w x r e o =
      let same = ap length e ∙ filled_length old base (2 * n) 0 in
      record {
        answer = o.answer;
        beyond =
            o.beyond ∙
            kept_work w
            (record { beyond = ap (drop (base + 2 * n)) e ∙ filled_beyond old base (2 * n) 0 (base + 2 * n) (omega arith); same_length = same });
        same_length = o.same_length ∙ same;
      }

-- ---- before the sources

module _ (bs : List ℕ) (n t g h : ℕ) (old : List ℕ) (asked : AllAsked bs n t (units g h) old) where
  tallyable : Tallyable bs n t (units g h) n old
  tallyable = record { accepted = asked.accepted; sources = omega arith; units = asked.units; fits = asked.fits }

  pub strike_depth : DepthReady bs n t h old
  strike_depth = depth_ready bs n t g h n old tallyable

  module _ (mid : List ℕ) (d : ℕ) (found : DepthOf bs n h old mid d) where
    pub strike_lent : Lent t (units g h) d (4 * (t + 1) - 2)
    strike_lent = columns_lent bs n t g h n old tallyable mid d found

    pub strike_ready : (base block : ℕ) → block ≡ most_columns n t (units g h) d (4 * (t + 1) - 2) → base ≡ tally_base n t →
        AllReady bs n t (units g h) d base block mid
    unfolding block_of
    strike_ready base block e f =
        let room = asked.fits in
        let same = found.same_length in
        record {
          asked = record { accepted = asked.accepted; units = asked.units; fits = omega arith };
          deep = found.deep;
          kept = found.most;
          block_there = e;
          base_there = f;
        }

    pub struck_entry : (i : ℕ) (new : List ℕ) (r : Option ℕ) → AllStruck bs i n t (units g h) mid new r →
        AllStruck bs i n t (units g h) old new r
    struck_entry i new r o =
        record {
          answer = o.answer;
          beyond = o.beyond ∙
              later_drop n (work_size n t) mid old (let one = mul-le-mul_left {m = 1} {n = t + 1} n (omega arith) in omega arith) found.beyond;
          same_length = o.same_length ∙ found.same_length;
        }
