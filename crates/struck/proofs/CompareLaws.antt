-- Hops and counts of the plan with the record and of the plan without it, from one source: the destinations at which they differ are those
-- that use the contact. Assumes nothing.
use Prim.Native.Nat.{ℕ, suc, ◌+◌, ◌-◌, ◌*◌, ◌<◌, ◌≤◌}
use native.Mathlib.Omega.{arith}
use mathlib.Core.Path.{◌≡◌, refl, sym, ap, ◌∙◌}
use mathlib.Core.Bool.{Bool, true, false, not, cond, ◌&&◌}
use mathlib.Core.List.{List}
use mathlib.Core.Logic.{inr}
use lib.Dec.{eqb}
use lib.ListN.{length, get_or, drop}
use Rattle.temporal.specs.Lists.{from, below, sum}
use Rattle.temporal.specs.Plan.{Terms}
use Rattle.temporal.specs.Bytes.{plan_of}
use Rattle.temporal.specs.Shortest.{shortest_walks_to, hops, count}
use Rattle.temporal.specs.Struck.{struck_out, uses, is_user}
use Rattle.walks.proofs.Accepted.{accepted}
use Rattle.lists.proofs.BufferLaws.{later_drop}
use Rattle.walks.proofs.LackingLaws.{lacking_plan}
use Rattle.lists.proofs.ListLaws.{sum_ext, mem_below}
use Rattle.walks.proofs.StruckLaws.{uses_differs}
use Rattle.pass.specs.Row.{combined, second}
use Rattle.pass.proofs.RowLaws.{combined_length, combined_other, combined_at}
use Rattle.pass.proofs.PassLaws.{drop_same}
use Rattle.forward.specs.Passed.{pass_size, Passed}
use Rattle.tallies.specs.Progress.{ends}
use Rattle.tallies.proofs.BlockLaws.{later_same}
use Rattle.std.specs.Prelude.{Some, None}
use Rattle.struck.specs.Work.{differs_at, differing_at, differing, users_from, CompareReady, ComparedAs, Compared}

-- ---- how many stations differ

module _ (n at : ℕ) (w : List ℕ) where
  module _ (s : ℕ) where
    at_most_one : (z : ℕ) → differing_at n at w s z ≤ 1
    unfolding differing_at
    at_most_one z = go (not (eqb s z) && differs_at n at w z)
      where
        go : (b : Bool) → cond b 1 0 ≤ 1
        go true = omega arith
        go false = omega arith

    -- those before z are counted
    pub record Counting (z k : ℕ) : Type 0 where
      pub within : k ≤ z
      pub inside : z ≤ n
      pub rest : k + differing n at w s z (n - z) ≡ differing n at w s 0 n

    pub counting_none : Counting 0 0
    counting_none = let whole : n - 0 ≡ n = omega arith in
        record { within = omega arith; inside = omega arith; rest = rw whole (omega arith) }

    differing_next : (z : ℕ) → z < n → differing n at w s z (n - z) ≡ differing_at n at w s z + differing n at w s (z + 1) (n - (z + 1))
    unfolding differing from sum
    differing_next z h =
        let size : n - z ≡ suc (n - (z + 1)) = omega arith in
        let next : z + 1 ≡ suc z = omega arith in
        rw (size, next) refl

    pub counting_more : (z k x : ℕ) → z < n → Counting z k → x ≡ differing_at n at w s z → Counting (z + 1) (k + x)
    counting_more z k x h c is =
        let one = at_most_one z in
        let low = c.within in
        let rest = c.rest in
        let next = differing_next z h in
        record { within = omega arith; inside = omega arith; rest = omega arith }

    pub counting_few : (z k x : ℕ) → z < n → Counting z k → x ≡ differing_at n at w s z → k + x ≤ n
    counting_few z k x h c is = let one = at_most_one z in let low = c.within in omega arith

    pub counting_all : (z k : ℕ) → n ≤ z → Counting z k → k ≡ differing n at w s 0 n
    unfolding differing from sum
    counting_all z k h c =
        let none : n - z ≡ 0 = omega arith in
        let rest = rw none at c.rest in
        omega arith

-- ---- comparing

module _ (bs : List ℕ) (i n t : ℕ) (terms : Terms) (d at s : ℕ) (old : List ℕ) (ready : CompareReady bs i n t terms d at s old) where
  module _ (mid : List ℕ) (copied : mid ≡ combined second old at 0 (2 * n)) where
    mid_length : length mid ≡ length old
    mid_length = ap length copied ∙ combined_length second old at 0 (2 * n)

    kept_there : (j : ℕ) → j < 2 * n → get_or mid (at + j) 0 ≡ get_or old j 0
    unfolding second
    kept_there j h =
        let r = ready.room in
        let first : 0 + j ≡ j = omega arith in
        ap (λ l. get_or l (at + j) 0) copied ∙
        combined_at second old at 0 (2 * n) j h r.fits (inr (let a = r.apart in omega arith)) ∙ ap (λ k. get_or old k 0) first

    mid_beyond : drop (at + 2 * n) mid ≡ drop (at + 2 * n) old
    mid_beyond =
        drop_same (at + 2 * n) mid old mid_length
        (λ k h. ap (λ l. get_or l k 0) copied ∙ combined_other second old at 0 (2 * n) k (inr h))

    module _ (new : List ℕ) where
      passed_beyond : (r : Bool) → Passed bs n t terms d s 0 0 mid new r → drop (at + 2 * n) new ≡ drop (at + 2 * n) old
      passed_beyond r x =
          later_drop (pass_size n t terms d 0) (at + 2 * n) new mid (let a = ready.area in omega arith) x.beyond ∙ mid_beyond

      pub compared_over : Passed bs n t terms d s 0 0 mid new true → Compared bs i n t terms at s old new None
      unfolding ComparedAs
      compared_over x =
          record { answer = sym x.too_many; beyond = passed_beyond true x; same_length = x.same_length ∙ mid_length }

      module _ (x : Passed bs n t terms d s 0 0 mid new false) where
        kept_still : (j : ℕ) → j < 2 * n → get_or new (at + j) 0 ≡ get_or old j 0
        kept_still j h = stays ∙ kept_there j h
          where
            size : ℕ
            size = pass_size n t terms d 0

            stays : get_or new (at + j) 0 ≡ get_or mid (at + j) 0
            stays = later_same size (at + j) new mid (let a = ready.area in omega arith) x.beyond

        -- a destination differs exactly where it uses the contact
        differs_uses : (z : ℕ) → z < n → differs_at n at new z ≡ uses (plan_of bs n t terms) i s z
        unfolding differs_at plan_of
        differs_uses z h =
            let p = plan_of bs n t terms in
            let slots = (accepted bs n t ready.accepted).slots in
            let with = x.counted refl in
            let out = ready.stations in
            let plans = lacking_plan bs n t terms i in
            let hops_with : get_or new z 0 ≡ hops (shortest_walks_to p s z) = with.station_hops_law z h in
            let count_with : get_or new (n + z) 0 ≡ count (shortest_walks_to p s z) = with.station_counts_law z h in
            let hops_out : get_or new (at + z) 0 ≡ hops (shortest_walks_to (struck_out p i) s z) =
            kept_still z (omega arith) ∙ out.station_hops_law z h ∙ ap (λ q. hops (shortest_walks_to q s z)) plans in
            let place : at + n + z ≡ at + (n + z) = omega arith in
            let count_out : get_or new (at + n + z) 0 ≡ count (shortest_walks_to (struck_out p i) s z) =
            ap (λ k. get_or new k 0) place ∙ kept_still (n + z) (omega arith) ∙ out.station_counts_law z h ∙
            ap (λ q. count (shortest_walks_to q s z)) plans in
            rw (hops_with, count_with, hops_out, count_out) (sym (uses_differs p i s z (omega arith)))

        -- so the number of those that differ is the number of those that use it
        pub compared_pairs : (k : ℕ) → k ≡ differing n at new s 0 n → Compared bs i n t terms at s old new (Some k)
        unfolding ComparedAs users_from differing differing_at below plan_of
        compared_pairs k is =
            record {
              answer = (sym x.too_many, is ∙ sum_ext (below n) (λ z m. one z ((mem_below n).0 m)));
              beyond = passed_beyond false x;
              same_length = x.same_length ∙ mid_length;
            }
          where
            one : (z : ℕ) → z < n → differing_at n at new s z ≡ cond (is_user (plan_of bs n t terms) i (ends s z)) 1 0
            one z h = ap (λ b. cond (not (eqb s z) && b) 1 0) (differs_uses z h)
