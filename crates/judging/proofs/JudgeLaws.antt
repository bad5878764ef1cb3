-- A list of entries against the ways of the complete list, way by way. Assumes nothing.
use Prim.Native.Nat.{ℕ, zero, suc, ◌+◌, ◌-◌, ◌*◌, ◌/◌, ◌%◌, ◌≤◌, ◌<◌}
use mathlib.Core.Path.{◌≡◌, refl, sym, ap, ap₂, ◌∙◌, subst}
use mathlib.Core.Bool.{Bool}
use mathlib.Core.List.{List, [], ◌++◌, flat_map}
use mathlib.Core.Logic.{◌≢◌, by_cases}
use native.Mathlib.Omega.{arith}
use native.Mathlib.Decide.{dec_le}
use native.Mathlib.Nat.{suc-mul, mul-mod_left, div-add-mod', lt_of_mul-lt-mul_right, mul-le-mul_right}
use lib.ListN.{length, get_or, take, drop, length-take, length-drop}
use lib.Seq.{take_all, take-length, take-take, take-add, drop_at, get_or-take, length-take-le}
use Rattle.temporal.specs.Verdict.{complete, beginning, wrong, joined, verdict_on}
use Rattle.walks.proofs.VerdictLaws.{joined_suc, taken_length, way_there, verdict_complete, verdict_beginning, verdict_wrong}
use Rattle.lists.proofs.ListLaws.{length_zero}
use Rattle.ways.specs.declared.Pair.{Pair}
use Rattle.ways.specs.Found.{list_in, begins}
use Rattle.judging.specs.Legs.{FirstLegs, LastLegs, Follows}
use Rattle.judging.specs.Judge.{Judgeable, WaysJudgeable, FirstWays, NoFirstWays}
use Rattle.judging.proofs.WayLaws.{sized, some_way, first_is, first_legs_there, next_is, next_follows, last_is, last_legs_there}

-- a way's legs are those of its first h entries
module _ (t : List ℕ → Bool) (h : ℕ) (e : List ℕ) where
  pub firsts_taken : FirstLegs t h 0 e → FirstLegs t h 0 (take h e)
  firsts_taken f =
      record {
        serves = λ k low less. rw (take-take (suc k) h e less) (f.serves k low less);
        first = λ k low less m serves.
            rw (get_or-take h e k 0 less) (f.first k low less m (rw (take-take k h e (omega arith)) at serves));
      }

  pub firsts_whole : FirstLegs t h 0 (take h e) → FirstLegs t h 0 e
  firsts_whole f =
      record {
        serves = λ k low less. rw (take-take (suc k) h e less) at (f.serves k low less);
        first = λ k low less m serves.
            rw (get_or-take h e k 0 less) at (f.first k low less m (rw (take-take k h e (omega arith)) serves));
      }

-- a part of a beginning
cut : (k h : ℕ) (e : List ℕ) → k ≤ length e → take h (drop k (take (k + h) e)) ≡ take h (drop k e)
cut k h e fits =
    ap (λ x. take h (drop k x)) (take-add k h e)
    ∙ ap (take h) (drop_at (take k e) (take h (drop k e)) k (length-take-le k e fits))
    ∙ take-take h h (drop k e) (omega arith)

-- ---- way by way

-- entries up to a place are the first ways of a list, each of h entries
pub record Through (ways : List (List ℕ)) (h : ℕ) (e : List ℕ) (at : ℕ) : Type 0 where
  pub last : ℕ
  pub inside : last < length ways
  pub place : at ≡ suc last * h
  pub within : at ≤ length e
  pub begun : take at e ≡ joined (take (suc last) ways)

-- whole ways, at least one
module _ (bs : List ℕ) (q : Pair) (l e : List ℕ) (g : WaysJudgeable bs q l e) where
  pub one_way : q.hops ≤ length e
  one_way = let whole = g.whole in omega (arith, suc-mul g.ways q.hops)

  -- a way begins where a way ends, unless it is the last
  module _ (at : ℕ) (d : Through (list_in bs q) q.hops e at) where
    pub way_before : q.hops ≤ at
    way_before = let place = d.place in omega (arith, suc-mul d.last q.hops)

    pub way_behind : at < length e → at + q.hops ≤ length e
    way_behind less =
        let place = d.place in
        let whole = g.whole in
        let fewer : suc d.last < suc g.ways = lt_of_mul-lt-mul_right q.hops (omega arith) in
        let room = mul-le-mul_right q.hops fewer in
        omega (arith, suc-mul (suc d.last) q.hops)

module _ (bs : List ℕ) (q : Pair) (l : List ℕ) (g : Judgeable bs q l) (e : List ℕ) where
  -- entries that are first ways have them at their places
  there : (m i : ℕ) → i < m → m ≤ length (list_in bs q) → e ≡ joined (take m (list_in bs q))
      → take q.hops (drop (i * q.hops) e) ≡ get_or (list_in bs q) i []
  there m i less most is =
      ap (λ x. take q.hops (drop (i * q.hops) x)) is ∙ way_there q.hops (list_in bs q) (sized bs q l g) m i less most

  long : (m : ℕ) → m ≤ length (list_in bs q) → e ≡ joined (take m (list_in bs q)) → length e ≡ m * q.hops
  long m most is = ap length is ∙ taken_length q.hops (list_in bs q) (sized bs q l g) m most

  -- the first way
  pub through_first : q.hops ≤ length e → FirstLegs (begins bs q) q.hops 0 e → Through (list_in bs q) q.hops e q.hops
  unfolding joined flat_map
  through_first fits f =
      let first : get_or (list_in bs q) 0 [] ≡ take q.hops e =
      first_is bs q l g (take q.hops e) (length-take-le q.hops e fits) (firsts_taken (begins bs q) q.hops e f) in
      record {
        last = 0;
        inside = some_way bs q l g;
        place = omega (arith, suc-mul 0 q.hops);
        within = fits;
        begun = sym first ∙ sym (joined_suc (list_in bs q) 0 (some_way bs q l g) ∙ refl_nil);
      }
    where
      refl_nil : joined (take 0 (list_in bs q)) ++ get_or (list_in bs q) 0 [] ≡ get_or (list_in bs q) 0 []
      refl_nil = refl

  pub no_first : q.hops ≤ length e → (FirstLegs (begins bs q) q.hops 0 e → ⊥) → NoFirstWays (list_in bs q) e
  no_first fits other m most is =
      let some = g.some_hops in
      let size = long m most is in
      let none : 0 * q.hops ≡ 0 = omega arith in
      let first : take q.hops e ≡ get_or (list_in bs q) 0 [] =
      ap (λ k. take q.hops (drop k e)) (sym none) ∙ there m 0 (positive m size) most is in
      other (firsts_whole (begins bs q) q.hops e
      (subst (FirstLegs (begins bs q) q.hops 0) (sym first) (first_legs_there bs q l g)))
    where
      positive : (m : ℕ) → length e ≡ m * q.hops → 0 < m
      positive zero size = let some = g.some_hops in omega arith
      positive (suc m) size = omega arith

  -- the next way
  module _ (at : ℕ) (d : Through (list_in bs q) q.hops e at) (more : at + q.hops ≤ length e) where
    before_place : at - q.hops ≡ d.last * q.hops
    before_place = let place = d.place in omega (arith, suc-mul d.last q.hops)

    -- the way before the place
    here : take q.hops (drop (at - q.hops) e) ≡ get_or (list_in bs q) d.last []
    here =
        let place = d.place in
        let start : at - q.hops + q.hops ≡ at = omega (arith, suc-mul d.last q.hops) in
        sym (cut (at - q.hops) q.hops e (let most = d.within in omega arith))
        ∙ ap (λ k. take q.hops (drop (at - q.hops) (take k e))) start
        ∙ ap (λ x. take q.hops (drop (at - q.hops) x)) d.begun
        ∙ ap (λ k. take q.hops (drop k (joined (take (suc d.last) (list_in bs q))))) before_place
        ∙ way_there q.hops (list_in bs q) (sized bs q l g) (suc d.last) d.last (omega arith) d.inside

    behind_long : length (take q.hops (drop at e)) ≡ q.hops
    behind_long = simp (length-take, length-drop) (omega arith)

    pub through_next : Follows (begins bs q) q.hops (take q.hops (drop (at - q.hops) e)) (take q.hops (drop at e))
        → Through (list_in bs q) q.hops e (at + q.hops)
    through_next f =
        let (inside, is) = next_is bs q l g d.last d.inside (take q.hops (drop at e)) behind_long
        (subst (λ w. Follows (begins bs q) q.hops w (take q.hops (drop at e))) here f) in
        let place = d.place in
        let next : suc d.last ≡ d.last + 1 = omega arith in
        record {
          last = suc d.last;
          inside = omega arith;
          place = omega (arith, suc-mul (suc d.last) q.hops);
          within = more;
          begun =
              take-add at q.hops e ∙
              ap₂ ◌++◌ d.begun (sym is ∙ ap (λ k. get_or (list_in bs q) k []) (sym next)) ∙
              sym (joined_suc (list_in bs q) (suc d.last) (omega arith));
        }

    pub no_next :
        (Follows (begins bs q) q.hops (take q.hops (drop (at - q.hops) e)) (take q.hops (drop at e)) → ⊥) →
        NoFirstWays (list_in bs q) e
    no_next other m most is =
        let some_hops = g.some_hops in
        let place = d.place in
        let size = long m most is in
        let fewer : suc d.last * q.hops < m * q.hops = omega arith in
        let further : suc d.last < m = lt_of_mul-lt-mul_right q.hops fewer in
        let next : suc d.last ≡ d.last + 1 = omega arith in
        let behind : take q.hops (drop at e) ≡ get_or (list_in bs q) (d.last + 1) [] =
        ap (λ k. take q.hops (drop k e)) place ∙ there m (suc d.last) further most is ∙
        ap (λ k. get_or (list_in bs q) k []) next in
        other
        (rw (here, behind) (next_follows bs q l g d.last d.inside (omega arith)))

  -- at the end
  pub through_all : (at : ℕ) → Through (list_in bs q) q.hops e at → length e ≤ at → FirstWays (list_in bs q) e
  through_all at d past =
      record { last = d.last; inside = d.inside; ways = sym (take_all at e past) ∙ d.begun }

  -- ---- the verdict

  module _ (f : FirstWays (list_in bs q) e) where
    entries : length e ≡ suc f.last * q.hops
    entries = long (suc f.last) f.inside f.ways

    -- the last way
    last_there : drop (length e - q.hops) e ≡ get_or (list_in bs q) f.last []
    last_there =
        let start : length e - q.hops ≡ f.last * q.hops = omega (arith, entries, suc-mul f.last q.hops) in
        sym (take_all q.hops (drop (length e - q.hops) e) (simp length-drop (omega arith)))
        ∙ ap (λ k. take q.hops (drop k e)) start
        ∙ there (suc f.last) f.last (omega arith) f.inside f.ways

    pub all_out : LastLegs (begins bs q) q.hops 0 (drop (length e - q.hops) e) → complete ≡ verdict_on (list_in bs q) e
    all_out legs =
        let end = last_is bs q l g f.last f.inside (subst (LastLegs (begins bs q) q.hops 0) last_there legs) in
        let inside = f.inside in
        let all : suc f.last ≡ length (list_in bs q) = omega arith in
        sym (verdict_complete (list_in bs q) e
        (f.ways ∙ ap (λ k. joined (take k (list_in bs q))) all ∙ ap joined (take-length (list_in bs q))))

    pub some_left : (LastLegs (begins bs q) q.hops 0 (drop (length e - q.hops) e) → ⊥) → beginning ≡ verdict_on (list_in bs q) e
    some_left other =
        let inside = f.inside in
        let fewer : suc f.last < length (list_in bs q) =
        by_cases (dec_le (length (list_in bs q)) (suc f.last))
        (λ h. absurd (other (subst (LastLegs (begins bs q) q.hops 0) (sym last_there)
        (last_legs_there bs q l g f.last f.inside (omega arith)))))
        (λ h. omega arith) in
        sym (verdict_beginning (list_in bs q) e q.hops g.some_hops (sized bs q l g) (suc f.last, fewer, f.ways))

  pub is_wrong : NoFirstWays (list_in bs q) e → wrong ≡ verdict_on (list_in bs q) e
  is_wrong other = sym (verdict_wrong (list_in bs q) e other)

  -- no entry at all, and entries that are no whole ways
  pub is_empty : length e ≡ 0 → beginning ≡ verdict_on (list_in bs q) e
  is_empty none =
      sym (verdict_beginning (list_in bs q) e q.hops g.some_hops (sized bs q l g)
      (0, some_way bs q l g, (length_zero e).0 none ∙ sym joined_none))
    where
      joined_none : joined (take 0 (list_in bs q)) ≡ []
      joined_none = (length_zero (joined (take 0 (list_in bs q)))).0
          (taken_length q.hops (list_in bs q) (sized bs q l g) 0 (omega arith) ∙ omega arith)

  pub not_whole : length e % q.hops ≢ 0 → NoFirstWays (list_in bs q) e
  not_whole other m most is = other (ap (λ k. k % q.hops) (long m most is) ∙ mul-mod_left m q.hops)

  -- entries that are whole ways, at least one
  pub whole_ways : 0 < length e → length e % q.hops ≡ 0 → WaysJudgeable bs q l e
  whole_ways some-entry even =
      let split = div-add-mod' (length e) q.hops in
      record { pair = g; ways = length e / q.hops - 1; whole = go (length e / q.hops) refl }
    where
      go : (k : ℕ) → length e / q.hops ≡ k → length e ≡ suc (length e / q.hops - 1) * q.hops
      go zero is = let split = div-add-mod' (length e) q.hops in absurd (omega (arith, ap (λ k. k * q.hops) is))
      go (suc k) is =
          let split = div-add-mod' (length e) q.hops in
          let more : suc (length e / q.hops - 1) ≡ length e / q.hops = omega arith in
          rw more (omega arith)

-- ---- where there is no walk

pub none_complete : (e : List ℕ) → length e ≡ 0 → complete ≡ verdict_on [] e
unfolding joined flat_map
none_complete e none = sym (verdict_complete [] e ((length_zero e).0 none))

pub none_wrong : (e : List ℕ) → length e ≢ 0 → wrong ≡ verdict_on [] e
unfolding joined flat_map
none_wrong e some-entry =
    sym (verdict_wrong [] e (λ i most is. some-entry (ap length is ∙ ap (λ k. length (joined (take k []))) (zero_of i most))))
  where
    zero_of : (i : ℕ) → i ≤ 0 → i ≡ 0
    zero_of i h = omega arith
