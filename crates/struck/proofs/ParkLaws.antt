-- One source tallied in both plans, the tallies of each kept behind those that are worked on; and the loop over sources. Assumes nothing.
use Prim.Native.Nat.{ℕ, ◌+◌, ◌-◌, ◌*◌, ◌<◌, ◌≤◌}
use native.Mathlib.Omega.{arith}
use native.Mathlib.Decide.{ℕ_discrete}
use native.Mathlib.Numerals.{add-one}
use native.Mathlib.Nat.{mul-le-mul, mul-le-mul_right, mul-add, mul_comm}
use mathlib.Core.Path.{◌≡◌, refl, sym, ap, ap₂, subst, ◌∙◌}
use mathlib.Core.Bool.{Bool, true, false, not, cond, ◌&&◌, ◌||◌}
use mathlib.Core.List.{List, map}
use mathlib.Core.Logic.{◌⊎◌, inl, inr, ⊎_elim, by_cases}
use borrow.Author.Tests.{eq-eqb, ne_eqb}
use lib.Dec.{eqb}
use lib.ListN.{length, get_or, drop}
use Rattle.temporal.specs.Lists.{from, below, sum}
use Rattle.temporal.specs.Plan.{Plan, Terms}
use Rattle.temporal.specs.Bytes.{plan_of}
use Rattle.temporal.specs.Cause.{is_too_many, too_many_below, too_many_anywhere}
use Rattle.temporal.specs.Shortest.{shortest_walks_to, hops, count}
use Rattle.temporal.specs.Load.{load}
use Rattle.temporal.specs.Struck.{struck_out, lacking_record, uses, is_user}
use Rattle.temporal.specs.OutcomeStruck.{either_too_many}
use Rattle.walks.proofs.Accepted.{accepted}
use Rattle.lists.proofs.BufferLaws.{later_drop}
use Rattle.walks.proofs.LackingLaws.{lacking_accepted, lacking_plan, lacking_nothing}
use Rattle.lists.proofs.ListLaws.{any_true, any_false, mem_below, sum_ext}
use Rattle.walks.proofs.StruckLaws.{uses_differs}
use Rattle.counting.proofs.SumLaws.{sum_below_suc}
use Rattle.memory.specs.Fill.{filled}
use Rattle.memory.proofs.FillLaws.{filled_length, filled_at, filled_beyond}
use Rattle.pass.specs.Row.{combined, second}
use Rattle.pass.proofs.RowLaws.{combined_length, combined_other, combined_at}
use Rattle.pass.proofs.PassLaws.{drop_same}
use Rattle.pass.specs.PassedColumns.{waiting}
use Rattle.stale.proofs.LackingDepth.{deep_lacking}
use Rattle.forward.specs.declared.Splits.{Splits}
use Rattle.forward.specs.Passed.{pass_size, Knows, RefillReady}
use Rattle.forward.proofs.SizeLaws.{kept_or_not, size_kept, size_window}
use Rattle.forward.proofs.WidthLaws.{one_fits}
use Rattle.tallies.specs.Progress.{ends, pair_term, load_term, TallyEntry}
use Rattle.tallies.specs.Sources.{SourceReady, SourceDone}
use Rattle.tallies.proofs.BlockLaws.{later_same, entry_later}
use Rattle.tallies.proofs.TermLaws.{partly_none, load_partly}
use Rattle.std.specs.Prelude.{Option, Some, None}
use Rattle.struck.specs.Work.{differs_at, differing_at, differing, users_from, ParkReady, ParkDone, with_at, without_at, kept_at}
use Rattle.struck.specs.Work.{BothSummed, RoomReady, BothReady, BothAs, BothStruck, RoomAs, RoomStruck, RoomAsked, RoomFor}
use Rattle.struck.proofs.StrikeLaws.{or_second, or_neither, users_few, users_all}

-- ---- entries that are copied

-- tallies copied to another place
entry_copied : (p : Plan) (n from to s v : ℕ) (w x : List ℕ) → v < n → ((j : ℕ) → j < 2 * n → get_or x (to + j) 0 ≡ get_or w (from + j) 0) →
    TallyEntry p n from s v 0 w → TallyEntry p n to s v 0 x
entry_copied p n from to s v w x h same e =
    let a : to + n + v ≡ to + (n + v) = omega arith in
    let b : from + n + v ≡ from + (n + v) = omega arith in
    record {
      pairs_there = same v (omega arith) ∙ e.pairs_there;
      load_there = ap (λ k. get_or x k 0) a ∙ same (n + v) (omega arith) ∙ ap (λ k. get_or w k 0) (sym b) ∙ e.load_there;
    }

-- tallies that stay where they are
entry_stays : (p : Plan) (n at s v : ℕ) (w x : List ℕ) → v < n → ((j : ℕ) → j < 2 * n → get_or x (at + j) 0 ≡ get_or w (at + j) 0) →
    TallyEntry p n at s v 0 w → TallyEntry p n at s v 0 x
entry_stays p n at s v w x = entry_copied p n at at s v w x

-- a copied stretch
module _ (w x : List ℕ) (to from k : ℕ) (e : x ≡ combined second w to from k) where
  copied_length : length x ≡ length w
  copied_length = ap length e ∙ combined_length second w to from k

  copied_at : (j : ℕ) → j < k → to + k ≤ length w → (to ≤ from) ⊎ (from + k ≤ to) → get_or x (to + j) 0 ≡ get_or w (from + j) 0
  unfolding second
  copied_at j h fits apart = ap (λ l. get_or l (to + j) 0) e ∙ combined_at second w to from k j h fits apart

  copied_other : (i : ℕ) → (i < to) ⊎ (to + k ≤ i) → get_or x i 0 ≡ get_or w i 0
  copied_other i out = ap (λ l. get_or l i 0) e ∙ combined_other second w to from k i out

-- ---- one plan

module _ (bs : List ℕ) (n t : ℕ) (terms : Terms) (d base block park s : ℕ) (old : List ℕ)
    (ready : ParkReady bs n t terms d base block park s old) where
  module _ (mid : List ℕ) (taken : mid ≡ combined second old base park (2 * n)) where
    mid_length : length mid ≡ length old
    mid_length = copied_length old mid base park (2 * n) taken

    pub park_source : SourceReady bs n t terms d base block s mid
    park_source =
        let a = accepted bs n t ready.accepted in
        let behind = ready.behind in
        let fits = ready.fits in
        let same = mid_length in
        record {
          accepted = ready.accepted;
          source = ready.source;
          units = ready.units;
          deep = ready.deep;
          some_block = ready.some_block;
          area = ready.area;
          room = record { stations = a.stations; area = ready.part; fits = omega arith };
          summed = λ v h.
              entry_copied (plan_of bs n t terms) n park base s v old mid h
              (λ j q. copied_at old mid base park (2 * n) taken j q (omega arith) (inl (omega arith))) (ready.summed v h);
        }

    module _ (w : List ℕ) where
      stays : (r : Bool) → SourceDone bs n t terms base s mid w r → (i : ℕ) → base + 2 * n ≤ i → get_or w i 0 ≡ get_or old i 0
      stays r x i h =
          later_same (base + 2 * n) i w mid h x.kept.beyond ∙ copied_other old mid base park (2 * n) taken i (inr h)

      pub park_over : SourceDone bs n t terms base s mid w true → ParkDone bs n t terms base park s old w true
      park_over x =
          record {
            too_many = x.too_many;
            summed = λ e. absurd (let z : ◌≡◌ {A = ℕ} 0 1 = cc in omega arith);
            stations = λ e. absurd (let z : ◌≡◌ {A = ℕ} 0 1 = cc in omega arith);
            others = λ i h out. stays true x i h;
            same_length = x.kept.same_length ∙ mid_length;
          }

      module _ (x : SourceDone bs n t terms base s mid w false) where
        pub park_done : (new : List ℕ) → new ≡ combined second w park base (2 * n) → ParkDone bs n t terms base park s old new false
        park_done new back =
            let behind = ready.behind in
            let part = ready.part in
            let fits = ready.fits in
            let l = mid_length in
            let m = x.kept.same_length in
            let counted = x.stations refl in
            record {
              too_many = x.too_many;
              summed = λ e v h.
                  entry_copied (plan_of bs n t terms) n base park (s + 1) v w new h
                  (λ j q. copied_at w new park base (2 * n) back j q (omega arith) (inr (omega arith))) (x.summed refl v h);
              stations = λ e.
                  record {
                    station_hops_law = λ z q. copied_other w new park base (2 * n) back z (inl (omega arith)) ∙ counted.station_hops_law z q;
                    station_counts_law = λ z q.
                        copied_other w new park base (2 * n) back (n + z) (inl (omega arith)) ∙ counted.station_counts_law z q;
                    rows = λ z j q k. absurd (omega arith);
                  };
              others = λ i h out. copied_other w new park base (2 * n) back i out ∙ stays false x i h;
              same_length = copied_length w new park base (2 * n) back ∙ x.kept.same_length ∙ mid_length;
            }

-- ---- both plans

eqb_turned : (a b : ℕ) → eqb a b ≡ eqb b a
eqb_turned a b =
    by_cases (ℕ_discrete a b) (λ e. eq-eqb a b e ∙ sym (eq-eqb b a (sym e))) (λ d. ne_eqb a b d ∙ sym (ne_eqb b a (λ e. d (sym e))))

module _ (bs : List ℕ) (i n t : ℕ) (terms : Terms) (d base block s : ℕ) (old : List ℕ)
    (ready : BothReady bs i n t terms d base block s old) where
  -- the plan with the record
  pub both_with : ParkReady (lacking_record bs (length bs)) n t terms d base block (with_at n base) s old
  both_with =
      let r = ready.room in
      let fits = r.fits in
      subst (λ l. ParkReady l n t terms d base block (with_at n base) s old) (sym (lacking_nothing bs))
      (record {
        accepted = r.accepted;
        source = ready.source;
        units = r.units;
        deep = r.deep;
        some_block = r.some_block;
        area = r.area;
        part = r.part;
        behind = omega arith;
        fits = omega arith;
        summed = ready.summed.with_record;
      })

  module _ (first : List ℕ) where
    done_with : (r : Bool) → ParkDone (lacking_record bs (length bs)) n t terms base (with_at n base) s old first r →
        ParkDone bs n t terms base (with_at n base) s old first r
    done_with r x = subst (λ l. ParkDone l n t terms base (with_at n base) s old first r) (lacking_nothing bs) x

    pub both_over_with : ParkDone (lacking_record bs (length bs)) n t terms base (with_at n base) s old first true →
        BothStruck bs i n t terms base s old first None
    unfolding BothAs
    both_over_with y =
        let x = done_with true y in
        record {
          answer = rw (← x.too_many);
          beyond =
              drop_same (base + 8 * n) first old x.same_length (λ k h. x.others k (omega arith) (inr (omega arith)));
          same_length = x.same_length;
        }

    module _ (y : ParkDone (lacking_record bs (length bs)) n t terms base (with_at n base) s old first false) where
      x : ParkDone bs n t terms base (with_at n base) s old first false
      x = done_with false y

      module _ (mid : List ℕ) (kept : mid ≡ combined second first (kept_at n base) 0 (2 * n)) where
        mid_size : length mid ≡ length old
        mid_size = copied_length first mid (kept_at n base) 0 (2 * n) kept ∙ x.same_length

        -- entries of the tallies without the record are as they were
        mid_without : (j : ℕ) → j < 2 * n → get_or mid (without_at n base + j) 0 ≡ get_or old (without_at n base + j) 0
        mid_without j h =
            copied_other first mid (kept_at n base) 0 (2 * n) kept (without_at n base + j) (inl (omega arith)) ∙
            x.others (without_at n base + j) (omega arith) (inr (omega arith))

        pub both_without : ParkReady (lacking_record bs i) n t terms d base block (without_at n base) s mid
        both_without =
            let r = ready.room in
            let fits = r.fits in
            let l = mid_size in
            record {
              accepted = lacking_accepted bs n t r.accepted i;
              source = ready.source;
              units = r.units;
              deep = deep_lacking bs n t terms.keeping r.accepted i d r.deep;
              some_block = r.some_block;
              area = r.area;
              part = r.part;
              behind = omega arith;
              fits = omega arith;
              summed = λ v h.
                  entry_stays (plan_of (lacking_record bs i) n t terms) n (without_at n base) s v old mid h mid_without
                  (ready.summed.without_record v h);
            }

        module _ (new : List ℕ) where
          new_beyond : (r : Bool) → ParkDone (lacking_record bs i) n t terms base (without_at n base) s mid new r →
              drop (base + 8 * n) new ≡ drop (base + 8 * n) old
          new_beyond r z =
              drop_same (base + 8 * n) new old (z.same_length ∙ mid_size)
              (λ k h.
              z.others k (omega arith) (inr (omega arith)) ∙
              copied_other first mid (kept_at n base) 0 (2 * n) kept k (inr (omega arith)) ∙ x.others k (omega arith) (inr (omega arith)))

          pub both_over_without : ParkDone (lacking_record bs i) n t terms base (without_at n base) s mid new true →
              BothStruck bs i n t terms base s old new None
          unfolding BothAs
          both_over_without z =
              record {
                answer = rw (← z.too_many) (or_second (is_too_many (plan_of bs n t terms) s));
                beyond = new_beyond true z;
                same_length = z.same_length ∙ mid_size;
              }

          module _ (z : ParkDone (lacking_record bs i) n t terms base (without_at n base) s mid new false) where
            kept_there : (j : ℕ) → j < 2 * n → get_or new (kept_at n base + j) 0 ≡ get_or first j 0
            kept_there j h =
                let f = ready.room.fits in
                let l = x.same_length in
                let none : 0 + j ≡ j = omega arith in
                z.others (kept_at n base + j) (omega arith) (inr (omega arith)) ∙
                copied_at first mid (kept_at n base) 0 (2 * n) kept j h (omega arith)
                (inr (let p = ready.room.part in omega arith)) ∙ ap (λ k. get_or first k 0) none

            differs_uses : (v : ℕ) → v < n → differs_at n (kept_at n base) new v ≡ uses (plan_of bs n t terms) i s v
            unfolding differs_at plan_of
            differs_uses v h =
                let p = plan_of bs n t terms in
                let slots = (accepted bs n t ready.room.accepted).slots in
                let with = x.stations refl in
                let out = z.stations refl in
                let plans = lacking_plan bs n t terms i in
                let hops_out : get_or new v 0 ≡ hops (shortest_walks_to (struck_out p i) s v) =
                out.station_hops_law v h ∙ ap (λ q. hops (shortest_walks_to q s v)) plans in
                let count_out : get_or new (n + v) 0 ≡ count (shortest_walks_to (struck_out p i) s v) =
                out.station_counts_law v h ∙ ap (λ q. count (shortest_walks_to q s v)) plans in
                let hops_with : get_or new (kept_at n base + v) 0 ≡ hops (shortest_walks_to p s v) =
                kept_there v (omega arith) ∙ with.station_hops_law v h in
                let place : kept_at n base + n + v ≡ kept_at n base + (n + v) = omega arith in
                let count_with : get_or new (kept_at n base + n + v) 0 ≡ count (shortest_walks_to p s v) =
                ap (λ k. get_or new k 0) place ∙ kept_there (n + v) (omega arith) ∙ with.station_counts_law v h in
                rw (hops_with, count_with, hops_out, count_out)
                (ap₂ (λ a b. not (a && b))
                (eqb_turned (hops (shortest_walks_to (struck_out p i) s v)) (hops (shortest_walks_to p s v)))
                (eqb_turned (count (shortest_walks_to (struck_out p i) s v)) (count (shortest_walks_to p s v))) ∙
                sym (uses_differs p i s v (omega arith)))

            pub both_pairs : (k : ℕ) → k ≡ differing n (kept_at n base) new s 0 n → BothStruck bs i n t terms base s old new (Some k)
            unfolding BothAs users_from differing differing_at below plan_of
            both_pairs k is =
                record {
                  answer = (
                    or_neither _ _ (sym x.too_many) (sym z.too_many),
                    (
                      is ∙ sum_ext (below n) (λ v m. one v ((mem_below n).0 m)),
                      record {
                        with_record = λ v h.
                            entry_stays (plan_of bs n t terms) n (with_at n base) (s + 1) v first new h with_stays (x.summed refl v h);
                        without_record = λ v h. z.summed refl v h;
                      },
                    ),
                  );
                  beyond = new_beyond false z;
                  same_length = z.same_length ∙ mid_size;
                }
              where
                one : (v : ℕ) → v < n → differing_at n (kept_at n base) new s v ≡ cond (is_user (plan_of bs n t terms) i (ends s v)) 1 0
                one v h = ap (λ b. cond (not (eqb s v) && b) 1 0) (differs_uses v h)

                with_stays : (j : ℕ) → j < 2 * n → get_or new (with_at n base + j) 0 ≡ get_or first (with_at n base + j) 0
                with_stays j h =
                    z.others (with_at n base + j) (omega arith) (inl (omega arith)) ∙
                    copied_other first mid (kept_at n base) 0 (2 * n) kept (with_at n base + j) (inl (omega arith))

-- ---- the loop over sources

-- the sources before s are done in both plans, and none of them has too many
pub record Pairing (bs : List ℕ) (i n t : ℕ) (terms : Terms) (base : ℕ) (old : List ℕ) (s : ℕ) (w : List ℕ) (pairs : ℕ) : Type 0 where
  pub within : s ≤ n
  pub few : (a : ℕ) → a < s → (is_too_many (plan_of bs n t terms) a || is_too_many (plan_of (lacking_record bs i) n t terms) a) ≡ false
  pub summed : BothSummed (plan_of bs n t terms) (plan_of (lacking_record bs i) n t terms) n base s w
  pub counted : pairs ≡ sum (map (users_from (plan_of bs n t terms) i) (below s))
  pub small : pairs ≤ s * n
  pub beyond : drop (base + 8 * n) w ≡ drop (base + 8 * n) old
  pub same_length : length w ≡ length old

neither : (a b : Bool) → (a || b) ≡ false → (a ≡ false) × (b ≡ false)
neither true b q = absurd (let z : ◌≡◌ {A = ℕ} 0 1 = cc in omega arith)
neither false b q = (refl, q)

module _ (bs : List ℕ) (i n t : ℕ) (terms : Terms) (d base block : ℕ) (old : List ℕ) (pre : RoomReady bs n t terms d base block old) where
  pub pairing_room : with_at n base + 4 * n ≤ length old
  pairing_room = let f = pre.fits in omega arith

  pub pairing_cleared : (w : List ℕ) → w ≡ filled old (with_at n base) (4 * n) 0 → RoomReady bs n t terms d base block w
  pairing_cleared w e =
      record {
        accepted = pre.accepted;
        units = pre.units;
        deep = pre.deep;
        some_block = pre.some_block;
        area = pre.area;
        part = pre.part;
        fits = let f = pre.fits in omega (arith, ap length e, filled_length old (with_at n base) (4 * n) 0);
      }

  pub pairing_none : (w : List ℕ) → w ≡ filled old (with_at n base) (4 * n) 0 → Pairing bs i n t terms base w 0 w 0
  unfolding sum below from
  pairing_none w e =
      record {
        within = omega arith;
        few = λ a h. absurd (omega arith);
        summed = record {
          with_record = λ v h. cleared (plan_of bs n t terms) (with_at n base) 0 (omega arith) (omega arith) v h;
          without_record = λ v h. cleared (plan_of (lacking_record bs i) n t terms) (without_at n base) (2 * n) (omega arith) (omega arith) v h;
        };
        counted = refl;
        small = omega arith;
        beyond = refl;
        same_length = refl;
      }
    where
      zero_at_law : (j : ℕ) → j < 4 * n → get_or w (with_at n base + j) 0 ≡ 0
      zero_at_law j h = ap (λ l. get_or l (with_at n base + j) 0) e ∙ filled_at old (with_at n base) (4 * n) 0 j h pairing_room

      cleared : (p : Plan) (at k : ℕ) → at ≡ with_at n base + k → k + 2 * n ≤ 4 * n → (v : ℕ) → v < n → TallyEntry p n at 0 v 0 w
      cleared p at k is inside v h =
          let a : at + v ≡ with_at n base + (k + v) = omega arith in
          let b : at + n + v ≡ with_at n base + (k + n + v) = omega arith in
          record {
            pairs_there = ap (λ x. get_or w x 0) a ∙ zero_at_law (k + v) (omega arith) ∙ sym (partly_none (pair_term p v) n);
            load_there = ap (λ x. get_or w x 0) b ∙ zero_at_law (k + n + v) (omega arith) ∙ sym (partly_none (load_term p v) n);
          }

  module _ (s : ℕ) (w : List ℕ) (pairs : ℕ) (f : Pairing bs i n t terms base old s w pairs) where
    pub pairing_ready : s < n → BothReady bs i n t terms d base block s w
    pairing_ready h =
        record {
          room = record {
            accepted = pre.accepted;
            units = pre.units;
            deep = pre.deep;
            some_block = pre.some_block;
            area = pre.area;
            part = pre.part;
            fits = let e = f.same_length in let g = pre.fits in omega arith;
          };
          source = h;
          summed = f.summed;
        }

    -- what is known of the next sources without the record at position j can be found
    pub pairing_refill : (j : ℕ) → s < n → (splits : Splits) → Knows (lacking_record bs j) n t terms s n splits
        → RefillReady (lacking_record bs j) n t terms base s n splits w
    pairing_refill j h splits knows =
        record {
          accepted = lacking_accepted bs n t pre.accepted j;
          units = pre.units;
          source = h;
          sources = omega arith;
          room = one_fits n t terms d block base (omega arith) pre.area;
          fits = let e = f.same_length in let g = pre.fits in omega arith;
          knows = knows;
        }

    -- and both tallies stay
    pub pairing_kept : (x : List ℕ) → drop base x ≡ drop base w → length x ≡ length w → Pairing bs i n t terms base old s x pairs
    pairing_kept x beyond same =
        record {
          within = f.within;
          few = f.few;
          summed = record {
            with_record = λ v h.
                entry_later (plan_of bs n t terms) n (with_at n base) s v 0 base w x (omega arith) beyond (f.summed.with_record v h);
            without_record = λ v h.
                entry_later (plan_of (lacking_record bs i) n t terms) n (without_at n base) s v 0 base w x (omega arith) beyond
                (f.summed.without_record v h);
          };
          counted = f.counted;
          small = f.small;
          beyond = later_drop base (base + 8 * n) x w (omega arith) beyond ∙ f.beyond;
          same_length = same ∙ f.same_length;
        }

    pub pairing_over : s < n → (x : List ℕ) → BothStruck bs i n t terms base s w x None → RoomStruck bs i n t terms base old x None
    unfolding BothAs RoomAs too_many_below plan_of struck_out
    pairing_over h x o =
        record {
          answer = either (is_too_many (plan_of bs n t terms) s) (is_too_many (plan_of (lacking_record bs i) n t terms) s) refl refl o.answer;
          beyond = o.beyond ∙ f.beyond;
          same_length = o.same_length ∙ f.same_length;
        }
      where
        either : (a b : Bool) → a ≡ is_too_many (plan_of bs n t terms) s → b ≡ is_too_many (plan_of (lacking_record bs i) n t terms) s → (a || b) ≡ true →
            either_too_many (plan_of bs n t terms) i ≡ true
        either true b e g q = rw ((any_true (is_too_many (plan_of bs n t terms)) (below n)).1 (s, (mem_below n).1 h, sym e))
        either false true e g q =
            let plans = lacking_plan bs n t terms i in
            let there = (any_true (is_too_many (struck_out (plan_of bs n t terms) i)) (below n)).1
            (s, (mem_below n).1 h, ap (λ l. is_too_many l s) (sym plans) ∙ sym g) in
            rw there (or_second (too_many_anywhere (plan_of bs n t terms)))
        either false false e g q = absurd (let z : ◌≡◌ {A = ℕ} 0 1 = cc in omega arith)

    pub pairing_fits : s < n → (k : ℕ) (x : List ℕ) → BothStruck bs i n t terms base s w x (Some k) → pairs + k ≤ (s + 1) * n
    unfolding BothAs plan_of
    pairing_fits h k x o =
        let few = users_few (plan_of bs n t terms) i s in
        let is = o.answer.1.0 in
        let small = f.small in
        let next : (s + 1) * n ≡ s * n + n = omega arith in
        omega arith

    pub pairing_small : s < n → (k : ℕ) (x : List ℕ) → BothStruck bs i n t terms base s w x (Some k) → pairs + k ≤ 65536
    pairing_small h k x o =
        let few = (accepted bs n t pre.accepted).stations in
        let next : s + 1 ≤ 256 = omega arith in
        let most : (s + 1) * n ≤ 256 * 256 = mul-le-mul next few in
        let less = pairing_fits h k x o in
        omega arith

    pub pairing_more : s < n → (k : ℕ) (x : List ℕ) → BothStruck bs i n t terms base s w x (Some k) →
        Pairing bs i n t terms base old (s + 1) x (pairs + k)
    unfolding BothAs
    pairing_more h k x o =
        record {
          within = omega arith;
          few = λ a g. by_cases (ℕ_discrete a s) (λ e. rw e o.answer.0) (λ m. f.few a (omega arith));
          summed = o.answer.1.1;
          counted = rw add-one (ap₂ ◌+◌ f.counted o.answer.1.0 ∙ sym (sum_below_suc (users_from (plan_of bs n t terms) i) s));
          small = pairing_fits h k x o;
          beyond = o.beyond ∙ f.beyond;
          same_length = o.same_length ∙ f.same_length;
        }

    pub pairing_all : n ≤ s → RoomStruck bs i n t terms base old w (Some pairs)
    unfolding RoomAs too_many_below plan_of struck_out
    pairing_all h =
        let p = plan_of bs n t terms in
        let all : s ≡ n = let g = f.within in omega arith in
        let plans = lacking_plan bs n t terms i in
        let clear = (any_false (is_too_many p) (below n)).1 (λ a m. (neither (is_too_many p a) _ (f.few a (let g = (mem_below n).0 m in omega arith))).0) in
        let clear' : too_many_anywhere (struck_out p i) ≡ false =
        ap (λ q. too_many_below q n) (sym plans) ∙
        (any_false (is_too_many (plan_of (lacking_record bs i) n t terms)) (below n)).1
        (λ a m. (neither (is_too_many p a) _ (f.few a (let g = (mem_below n).0 m in omega arith))).1) in
        let last = subst (λ k. BothSummed p (plan_of (lacking_record bs i) n t terms) n base k w) all f.summed in
        record {
          answer = (
            or_neither _ _ clear clear',
            (
              f.counted ∙ ap (λ k. sum (map (users_from p i) (below k))) all ∙ sym (users_all p i),
              λ v g. (
                (last.with_record v g).load_there ∙ sym (load_partly p n v),
                (last.without_record v g).load_there ∙ sym (load_partly (plan_of (lacking_record bs i) n t terms) n v) ∙ ap (λ q. load q v) plans,
              ),
            ),
          );
          beyond = f.beyond;
          same_length = f.same_length;
        }

  -- what is promised of the cleared list is promised of the list before
  pub pairing_before : (w x : List ℕ) (r : Option ℕ) → w ≡ filled old (with_at n base) (4 * n) 0 → RoomStruck bs i n t terms base w x r →
      RoomStruck bs i n t terms base old x r
  pairing_before w x r e o =
      let same = ap length e ∙ filled_length old (with_at n base) (4 * n) 0 in
      record {
        answer = o.answer;
        beyond =
            o.beyond ∙ ap (drop (base + 8 * n)) e ∙ filled_beyond old (with_at n base) (4 * n) 0 (base + 8 * n) (omega arith);
        same_length = o.same_length ∙ same;
      }

-- ---- whether there is room

-- k columns more take at least 2 k entries a station more
columns_more : (n t : ℕ) (terms : Terms) (d block k : ℕ) → 0 < waiting t terms →
    pass_size n t terms d block + 2 * (k * n) ≤ pass_size n t terms d (block + k)
columns_more n t terms d block k some =
    ⊎_elim
    (λ kept.
    let a = size_kept n t terms d block kept in
    let b = size_kept n t terms d (block + k) kept in
    let two : 2 * (k * n) ≤ (1 + waiting t terms) * (k * n) = mul-le-mul_right (k * n) (omega arith) in
    let parts = apart (1 + waiting t terms) in
    omega arith)
    (λ over.
    let a = size_window n t terms d block over in
    let b = size_window n t terms d (block + k) over in
    let two : 2 * (k * n) ≤ (3 + d) * (k * n) = mul-le-mul_right (k * n) (omega arith) in
    let parts = apart (3 + d) in
    omega arith)
    (kept_or_not t terms)
  where
    apart : (m : ℕ) → m * (2 * n + n * (block + k)) ≡ m * (2 * n + n * block) + m * (k * n)
    apart m =
        let one : 2 * n + n * (block + k) ≡ 2 * n + n * block + k * n = omega (arith, mul-add n block k, mul_comm n k) in
        ap (◌*◌ m) one ∙ mul-add m (2 * n + n * block) (k * n)

module _ (n t : ℕ) (terms : Terms) (d base block : ℕ) (asked : RoomAsked n t terms d base block) where
  pub room_less : 3 < block → RoomFor n t terms d base block (Some (block - 3))
  room_less h =
      let turns = asked.turns in
      let slots = asked.slots in
      let more = columns_more n t terms d (block - 3) 3 (omega arith) in
      let back : block - 3 + 3 ≡ block = omega arith in
      let less = rw back at more in
      let fits = asked.fits in
      record { fits = omega arith; some = λ block_some. omega arith }
