-- The pair from s to z: whether it is a pair of the station, its figures, and that its text can be written. Assumes nothing.
use Prim.Native.Nat.{ℕ, ◌+◌, ◌-◌, ◌*◌, ◌/◌, ◌^◌, ◌<◌, ◌≤◌, min}
use native.Mathlib.Omega.{arith}
use native.Mathlib.Nat.{mul-le-mul}
use mathlib.Core.Path.{◌≡◌, refl, sym, ap, ap₂, subst, ◌∙◌}
use mathlib.Core.Bool.{Bool, true, false, not, ◌&&◌}
use mathlib.Core.List.{List, ◌++◌, map, flat_map}
use mathlib.Core.Logic.{⊎_elim, ◌≢◌}
use borrow.Author.Tests.{eq-eqb, ne_eqb, lt-leb, lt-ltb, le-ltb}
use lib.Dec.{eqb}
use lib.ListN.{length, get_or, take}
use Rattle.temporal.specs.Lists.{below, select}
use Rattle.temporal.specs.Plan.{Plan, turning}
use Rattle.temporal.specs.Walk.{is_interior}
use Rattle.temporal.specs.Shortest.{shortest_walks_to, hops, count, through}
use Rattle.temporal.specs.Load.{Ends, is_pair_of, share}
use Rattle.temporal.specs.Bytes.{contact_at, records, plan_of}
use Rattle.temporal.specs.Cause.{plan_fault, terms_causes, pair_causes, ends_causes, is_too_many, too_many_below}
use Rattle.temporal.specs.Outcome.{Outcome, work_size}
use Rattle.temporal.specs.OutcomePair.{PairValues, PairBuffers, paired, pair}
use Rattle.lists.proofs.ListLaws.{not_both, mem_below, any_false, mem_select, empty_or_member}
use Rattle.lists.proofs.BufferLaws.{written}
use Rattle.walks.proofs.EnteredLaws.{entered_call, entered_none, entered_pass, entered_work}
use Rattle.walks.proofs.Adequacy.{few_hops}
use Rattle.walks.proofs.FewLaws.{select_shorter}
use Rattle.calls.proofs.CallLaws.{terms_allowed}
use Rattle.plan.specs.Fault.{fault_number}
use Rattle.plan.specs.declared.Fault.{Fault}
use Rattle.plan.proofs.Answers.{fault-number-within}
use Rattle.pair.specs.Answer.{pair_buffers, pair_outcome}
use Rattle.std.specs.Prelude.{Result, Ok, Err}
use Rattle.pair.specs.declared.PairCount.{PairCount}
use Rattle.text.specs.Written.{Put}
use Rattle.text.proofs.PutLaws.{put_none}
use Rattle.layered.specs.Layered.{layered, down}
use Rattle.layered.proofs.AcceptedLaws.{layered_accepted}
use Rattle.layered.proofs.ThroughLaws.{layered_walks, layered_count, layered_hops}
use Rattle.account.specs.Account.{Figures, figures_of, pair_line, walk_line, more_line, walks_through, walks_text, pair_text}
use Rattle.account.specs.Work.{walk_lines, layered_list, layered_text, between_text, Accountable, BetweenWritable, PairWritable}
use Rattle.account.proofs.LayeredText.{lowered_lines}

-- an end is never inside
interior_apart : (p : Plan) (s z v : ℕ) (w : List ℕ) → is_interior p s z v w ≡ true → (s ≢ v) × (z ≢ v)
unfolding is_interior
interior_apart p s z v w e = (λ q. not_both e (rw (eq-eqb v s (sym q)) refl), λ q. not_both e (go (eqb v s) _ (eq-eqb v z (sym q))))
  where
    go : (b c : Bool) → eqb v z ≡ true → (not b && (not (eqb v z) && c)) ≡ false
    go true c q = refl
    go false c q = rw q refl

through_apart : (p : Plan) (s z v : ℕ) → 0 < through p s z v → (s ≢ v) × (z ≢ v)
unfolding through
through_apart p s z v some =
    ⊎_elim (λ none. absurd (omega (arith, ap length none)))
    (λ m. interior_apart p s z v m.0 ((mem_select (is_interior p s z v) (shortest_walks_to p s z)).0 m.1).1)
    (empty_or_member (select (is_interior p s z v) (shortest_walks_to p s z)))

module _ (bs : List ℕ) (n t g v k s z at : ℕ) (ls table way work out : List ℕ)
    (w : BetweenWritable bs n t g v k s z at ls table way work out) where
  abbrev p : Plan
  p = plan_of bs n t (turning g)

  abbrev e : Ends
  e = record { source = s; destination = z }

  abbrev a : Accountable bs n t g v ls table way work
  a = w.accountable

  -- nothing is written where it is no pair of v
  nothing : is_pair_of p v e ≡ false → Put at (between_text bs n t g v k s z) out at out
  unfolding between_text
  nothing free = rw free (put_none at out (omega (arith, w.room)))

  pub between_same : s ≡ z → Put at (between_text bs n t g v k s z) out at out
  between_same q = nothing (rw (eq-eqb s z q) refl)

  module _ (apart : s ≢ z) where
    fits : work_size n t ≤ length work
    fits = omega (arith, a.work_room, mul-le-mul twice same)
      where
        twice : n ≤ 2 * n
        twice = omega arith

        same : t + 1 ≤ t + 1
        same = omega arith

    -- pair is carried through
    works : pair bs n t (turning g) s z (pair_buffers table work) ≡ paired p s z (pair_buffers table work)
    unfolding pair pair_causes ends_causes
    works =
        let zeros : PairValues = record { hops = 0; count = 0 } in
        let old = pair_buffers table work in
        let outcome = paired p s z old in
        entered_call zeros old outcome bs n t _ a.accepted ∙
        entered_none zeros old outcome (terms_causes (turning g)) _ a.allowed ∙
        entered_pass zeros old outcome 6 _ _ (rw (lt-leb n s w.source, lt-leb n z w.destination) refl) ∙
        entered_pass zeros old outcome 7 _ _ (ne_eqb s z apart) ∙
        entered_pass zeros old outcome 8 _ _ (rw (le-ltb _ _ a.through_room, le-ltb _ _ fits) refl) ∙
        entered_work zeros old outcome

    not_many : is_too_many p s ≡ false
    unfolding too_many_below plan_of
    not_many = (any_false (is_too_many p) (below n)).0 a.counted s ((mem_below n).1 w.source)

    -- what pair answers and leaves
    module _ (r : Result PairCount Fault) (table' work' : List ℕ)
        (answer : pair_outcome r (pair_buffers table' work') ≡ pair bs n t (turning g) s z (pair_buffers table work)) where
      no_number : (paired p s z (pair_buffers table work)).number ≡ 0
      unfolding paired
      no_number = rw not_many refl

      -- it does not refuse
      pub between_refused : (f : Fault) → r ≡ Err f → Put at (between_text bs n t g v k s z) out at out
      between_refused f told =
          let number : fault_number f ≡ 0 =
          ap (λ r. (pair_outcome r (pair_buffers table' work')).number) (sym told) ∙ ap (λ o. o.number) (answer ∙ works) ∙ no_number in
          absurd (omega (arith, number, fault-number-within f))

      module _ (got : PairCount) (told : r ≡ Ok got) where
        outcome :
            ◌≡◌ {A = Outcome PairValues PairBuffers}
            (record { number = 0; values = record { hops = got.hops; count = got.count }; buffers = pair_buffers table' work' }) (paired p s z (pair_buffers table work))
        outcome = ap (λ r. pair_outcome r (pair_buffers table' work')) (sym told) ∙ answer ∙ works

        hops_are : got.hops ≡ hops (shortest_walks_to p s z)
        unfolding paired
        hops_are = ap (λ o. o.values.hops) outcome ∙ rw not_many refl

        count_is : got.count ≡ count (shortest_walks_to p s z)
        unfolding paired
        count_is = ap (λ o. o.values.count) outcome ∙ rw not_many refl

        through_is : get_or table' v 0 ≡ through p s z v
        unfolding paired plan_of
        through_is =
            ap (λ o. get_or o.buffers.through_table v 0) outcome ∙ rw not_many refl ∙
            written (through p s z) n v table a.station

        -- no walk has v inside
        pub between_none : get_or table' v 0 ≡ 0 → Put at (between_text bs n t g v k s z) out at out
        between_none q = nothing (rw (ne_eqb s z apart, le-ltb 0 (through p s z v) (omega (arith, through_is))) refl)

        -- some have
        module _ (some : get_or table' v 0 ≢ 0) where
          positive : 0 < through p s z v
          positive = omega (arith, through_is, some)

          at_most : through p s z v ≤ count (shortest_walks_to p s z)
          unfolding through
          at_most = select_shorter (is_interior p s z v) (shortest_walks_to p s z)

          -- the share can be formed
          pub between_share : (get_or table' v 0 ≤ got.count) × (0 < got.count)
          between_share =
              let x = through_is in
              let y = count_is in
              let m = at_most in
              let q = positive in
              (omega arith, omega arith)

          pub between_figures : (sh : ℕ) → sh ≡ 2 ^ 32 * get_or table' v 0 / got.count →
              ◌≡◌ {A = Figures}
              (record { source = s; destination = z; hops = got.hops; through = get_or table' v 0; count = got.count; share = sh }) (figures_of p v e)
          unfolding share
          between_figures sh q = rw (q, through_is, count_is, hops_are) refl

          twice : 2 * n ≤ 256
          twice = omega (arith, a.stations)

          few : 2 * records bs ≤ 8192
          few = omega (arith, a.few)

          accepted_layers : plan_fault (layered bs n v) (2 * n) t ≡ 0
          accepted_layers = layered_accepted bs n t v a.accepted twice few

          is_pair : is_pair_of p v e ≡ true
          is_pair = rw (ne_eqb s z apart, lt-ltb 0 (through p s z v) positive) refl

          module _ (f : Figures) (same : f ≡ figures_of p v e) where
            ends_apart : (s ≢ v) × (z ≢ v)
            ends_apart = through_apart p s z v positive

            walks : map (map (down bs)) (layered_list (layered bs n v) n t g f) ≡ walks_through p v e
            unfolding walks_through
            walks =
                rw same
                (layered_walks bs n t (turning g) v a.accepted s z ends_apart.0 ends_apart.1 w.source w.destination twice few positive)

            size : length (walks_through p v e) ≡ f.through
            unfolding walks_through through
            size = rw same refl

            -- the text read from the layered plan is the account's
            text_same : layered_text ls n t g k f ≡ between_text bs n t g v k s z
            unfolding layered_text between_text pair_text walks_text
            text_same =
                rw (is_pair, a.layers)
                (ap₂ ◌++◌ (ap pair_line same)
                (ap₂ ◌++◌
                (ap (λ m. walk_lines (layered bs n v) n (layered_list (layered bs n v) n t g f) (min k m)) (sym size) ∙
                lines_lowered)
                (ap (λ m. more_line (m - min k m)) (sym size))))
              where
                lines_lowered :
                    walk_lines (layered bs n v) n (layered_list (layered bs n v) n t g f) (min k (length (walks_through p v e))) ≡
                    flat_map (walk_line (contact_at bs)) (take k (walks_through p v e))
                lines_lowered = lowered_lines bs n t (turning g) v a.accepted accepted_layers f.source (n + f.destination) k _ walks

            fewest : f.hops ≡ hops (layered_list ls n t g f)
            fewest =
                rw (a.layers, same)
                (sym (layered_hops bs n t (turning g) v a.accepted s z ends_apart.0 ends_apart.1 w.source w.destination twice few positive))

            path : f.hops < 65535
            path =
                ⊎_elim (λ none. absurd (omega (arith, ap length none, at_most, positive))) (λ less. rw same less)
                (few_hops bs n t (turning g) s z a.accepted)

            enough : f.through ≤ length (layered_list ls n t g f)
            enough =
                rw (a.layers, same)
                (omega (
                  arith,
                  layered_count bs n t (turning g) v a.accepted s z ends_apart.0 ends_apart.1 w.source w.destination twice few positive,
                ))

            -- the pair can be written
            pub between_writable : length work' ≡ length work → PairWritable ls n t g k at f way work' out
            between_writable kept =
                record {
                  stations = a.stations;
                  completable = record {
                    accepted = rw a.layers accepted_layers;
                    units = terms_allowed (turning g) a.allowed;
                    destination = omega (arith, w.destination, ap (λ f. f.destination) same);
                    fits = omega (arith, kept, a.work_room);
                  };
                  listable = record {
                    accepted = rw a.layers accepted_layers;
                    source = omega (arith, w.source, ap (λ f. f.source) same);
                    fewest = fewest;
                    path = path;
                    room = a.way_room;
                  };
                  enough = enough;
                  room = subst (λ l. at + length l ≤ length out) (sym text_same) w.room;
                }

            pub between_written : (r : ℕ) (now : List ℕ) → Put at (layered_text ls n t g k f) out r now → Put at (between_text bs n t g v k s z) out r now
            between_written r now q = subst (λ l. Put at l out r now) text_same q
