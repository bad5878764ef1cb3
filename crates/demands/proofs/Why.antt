-- What the account of a station promises holds. Assumes nothing.
use Prim.Native.Nat.{ℕ, suc, ◌+◌, ◌-◌, ◌<◌, min}
use native.Mathlib.Omega.{arith}
use mathlib.Core.Path.{◌≡◌, refl, sym, ap, ap₂, subst, ◌∙◌}
use mathlib.Core.Bool.{cond}
use mathlib.Core.List.{List, [], ◌∷◌, ◌++◌, map, flat_map, map-map, Memᴰ}
use mathlib.Core.Logic.{◌↔◌}
use borrow.Author.Tests.{eq-eqb, ne_eqb}
use lib.ListN.{length, length-map, length-take, get_or, take}
use Rattle.temporal.specs.Lists.{from, below, sum}
use Rattle.temporal.specs.Plan.{Contact, Plan, Terms, start}
use Rattle.temporal.specs.Walk.{is_interior}
use Rattle.temporal.specs.Shortest.{shortest_walks_to, through}
use Rattle.temporal.specs.Load.{Ends, pairs_of, partial_pairs, pairs, share, partial_load, load}
use Rattle.temporal.specs.Bytes.{contact_at, plan_of}
use Rattle.walks.proofs.Adequacy.{complete_list_rises}
use Rattle.lists.proofs.ListLaws.{mem_map, mem_select, rising_select}
use Rattle.walks.proofs.PathLaws.{interior_inv}
use Rattle.walks.proofs.PlanLaws.{contact_there, contacts_length}
use Rattle.walks.proofs.WalkLaws.{run_positions}
use Rattle.trace.proofs.CursorLaws.{take_over}
use Rattle.text.specs.Field.{ascii, line_feed}
use Rattle.account.specs.Account.{station_line, leg, behind_leg, walk_line, walks_through, figures_of}
use Rattle.account.specs.Account.{walks_text, pair_text, account_text, accounted}
use Rattle.demands.specs.Why.{Section, section_text, ends, ends_of, PassesThrough, IsPair, EndsRising, through_list, FiguresTold}
use Rattle.demands.specs.Why.{WalksTold, AccountTold, behind_for, legs_text, LegsTold, WhyDemand}
use Rattle.demands.proofs.EndsLaws.{mem_take, take_all, take_further, rising_take, take_first, some_member}
use Rattle.demands.proofs.EndsLaws.{pairs_rise, rising_once, pairs_exactly}
use Rattle.demands.proofs.WhyRefusals.{accepted_exactly, six_exactly, refused, printed_exactly, limited, six_printed, same_refusal}
use Rattle.demands.proofs.WhyRefusals.{beside_nine, same_figures}
use Rattle.demands.proofs.WhyText.{plan_a_two_slots, plan_a_one_slot}

-- ---- what is printed

flat_map_law : {A B C : Type 0} (f : B → List C) (g : A → B) (l : List A) → flat_map f (map g l) ≡ flat_map (λ x. f (g x)) l
unfolding flat_map
flat_map_law f g [] = refl
flat_map_law f g (x ∷ l) = ap (◌++◌ (f (g x))) (flat_map_law f g l)

module _ (p : Plan) (v k : ℕ) where
  -- what is printed of a pair
  abbrev section_of : Ends → Section
  section_of e =
      record {
        figures = figures_of p v e;
        walks = take k (walks_through p v e);
        more = length (walks_through p v e) - min k (length (walks_through p v e));
      }

  abbrev sections : List Section
  sections = map section_of (pairs_of p v)

  named : map ends_of sections ≡ pairs_of p v
  named = go (pairs_of p v)
    where
      go : (l : List Ends) → map ends_of (map section_of l) ≡ l
      go [] = refl
      go (e ∷ l) = ap (◌∷◌ e) (go l)

  -- the figures of a pair of v
  figures_told : (e : Ends) → Memᴰ e (pairs_of p v) → FiguresTold p v (figures_of p v e)
  unfolding share through
  figures_told e m =
      let is = (pairs_exactly p v e.source e.destination).0 m in
      record {
        hops_of = refl;
        count_of = refl;
        through_of_law = refl;
        share_of = refl;
        some_count = (some_member (shortest_walks_to p e.source e.destination)).1 (is.walk, is.through.listed);
      }

  walks_told : (e : Ends) → WalksTold p v k (section_of e)
  unfolding walks_through through
  walks_told e =
      let test = is_interior p e.source e.destination v in
      let all = shortest_walks_to p e.source e.destination in
      let l = through_list p v e in
      let rises = rising_select test all (complete_list_rises p e.source e.destination) in
      record {
        walks_of = refl;
        each = λ w m.
            let (listed, inside) = (mem_select test all).0 (mem_take k l m) in record { listed = listed; inside = inside };
        rising = rising_take k l rises;
        first_ones = λ u w m h. take_first k l rises u w m ((mem_select test all).1 (h.listed, h.inside));
        more_of = omega (arith, length-take k l);
        all_of = λ h. (take_all k l h, omega arith);
      }

  -- of each section
  each_section : (P : Section → Type 0) → ((e : Ends) → Memᴰ e (pairs_of p v) → P (section_of e))
      → (x : Section) → Memᴰ x sections → P x
  each_section P h x m = let (e, there, same) = (mem_map section_of (pairs_of p v)).0 m in subst P same (h e there)

  told : (at : ℕ → Contact) → AccountTold at p v k (account_text at p v k)
  unfolding account_text pair_text walks_text section_text partial_pairs partial_load
  told at =
      record {
        number = pairs p v;
        load = load p v;
        sections = sections;
        text_is = ap (◌++◌ (station_line v (pairs p v) (load p v))) (sym (flat_map_law (section_text at) section_of (pairs_of p v)));
        number_of = sym (length-map (pairs_of p v) section_of);
        load_is_shares = ap sum (sym (map-map (λ x. x.figures.share) section_of (pairs_of p v)));
        pairs_are = named;
        exactly = λ s z. subst (λ l. Memᴰ (ends s z) l ↔ IsPair p v s z) (sym named) (pairs_exactly p v s z);
        rising = subst EndsRising (sym named) (pairs_rise p v);
        once = λ i j g h e.
            let size = length-map (pairs_of p v) section_of in
            rising_once (pairs_of p v) (pairs_rise p v) (ends 0 0) i j g (omega arith) (rw named at e);
        figures_told = each_section (λ x. FiguresTold p v x.figures) figures_told;
        walks_told = each_section (WalksTold p v k) (λ e m. walks_told e);
      }

-- ---- a walk's legs

-- what stands behind leg i of so many
behind_leg_law : (at : ℕ → Contact) (i size : ℕ) (w : List ℕ) → size ≡ i + suc (length w) → behind_leg size i ≡ behind_for (map at w)
unfolding behind_leg behind_for
behind_leg_law at i size [] e = ap (λ b. cond b line_feed (ascii ", ")) (eq-eqb (i + 1) size (omega arith))
behind_leg_law at i size (x ∷ w) e = ap (λ b. cond b line_feed (ascii ", ")) (ne_eqb (i + 1) size (λ q. omega arith))

-- the legs from leg i on are those of the rest of the walk
legs_from :
    (at : ℕ → Contact) (get : ℕ → ℕ) (size i : ℕ) (w : List ℕ) → size ≡ i + length w →
    ((j : ℕ) → j < length w → get (i + j) ≡ get_or w j 0) →
    flat_map (λ k. leg (at (get k)) (behind_leg size k)) (from i (length w)) ≡ legs_text (map at w)
unfolding flat_map from legs_text
legs_from at get size i [] e h = refl
legs_from at get size i (x ∷ w) e h =
    let same : i + 0 ≡ i = omega arith in
    let here : get i ≡ x = ap get (sym same) ∙ h 0 (omega arith) in
    let rest = legs_from at get size (suc i) w (omega arith) (λ j q.
    let next : suc i + j ≡ i + suc j = omega arith in ap get next ∙ h (suc j) (omega arith)) in
    ap₂ ◌++◌ (ap₂ (λ y b. leg (at y) b) here (behind_leg_law at i size w (omega arith))) rest

legs :
    (bs : List ℕ) (n t : ℕ) (terms : Terms) (v s z : ℕ) (w : List ℕ) → PassesThrough (plan_of bs n t terms) v s z w →
    LegsTold bs (plan_of bs n t terms) w
unfolding walk_line below
legs bs n t terms v s z w h =
    let p = plan_of bs n t terms in
    let inside = interior_inv p s z v w h.inside in
    record {
      line_is = ap (◌++◌ (ascii "  ")) (legs_from (contact_at bs) (λ k. get_or w k 0) (length w) 0 w (omega arith)
          (λ j q. let same : 0 + j ≡ j = omega arith in ap (λ k. get_or w k 0) same));
      contacts_are = λ i m.
          contact_there bs n t terms i
          (subst (λ k. i < k) (contacts_length bs n t terms) (run_positions p (start s) w inside.runs i m));
    }

pub why_demand : WhyDemand
why_demand =
    record {
      told = λ at p v k. told p v k at;
      further = λ p v k j e h. take_further k j (through_list p v e) h;
      legs = legs;
      printed_exactly = printed_exactly;
      refused = refused;
      limited = limited;
      never_cut = λ bs terms v k out size now a.
          rw a.text_is (take_over (accounted bs terms v k) out size (sym a.length_is));
      accepted_exactly = accepted_exactly;
      six_exactly = six_exactly;
      six_printed = six_printed;
      same_refusal = same_refusal;
      beside_nine = beside_nine;
      same_figures = same_figures;
      plan_a_two_slots = plan_a_two_slots;
      plan_a_one_slot = plan_a_one_slot;
    }
