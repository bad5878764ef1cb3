-- The walks of a plan in its layered plan. A walk is lifted leg by leg: a leg's layer is that of the leg before it, or layer 1 once a leg
-- is sent by v. Every walk lifts in one way, and a walk of the layered plan from layer 0 is the lift of the walk below it.
-- Assumes nothing.
use Prim.Native.Nat.{ℕ, ◌+◌, ◌*◌, ◌<◌}
use native.Mathlib.Omega.{arith}
use native.Mathlib.Decide.{ℕ_discrete}
use mathlib.Core.Path.{◌≡◌, refl, sym, ap, ap₂, subst, ◌∙◌}
use mathlib.Core.Bool.{Bool, true, false, cond, ◌&&◌, and-false}
use mathlib.Core.List.Memᴰ
use mathlib.Core.List.{List, [], ◌∷◌, map, Memᴰ}
use mathlib.Core.Logic.{by_cases}
use mathlib.Core.Option
use mathlib.Core.Option.{Option, none, some, bind, map-eq-some_iff}
use borrow.Author.Tests.{eq-eqb, ne_eqb}
use lib.Dec.{eqb}
use lib.ListN.{get_elem?}
use Rattle.temporal.specs.Plan.{Contact, Plan, Terms, Appearance, leads_to, may_follow}
use Rattle.temporal.specs.Walk.{along, step, holds, ends_in, is_at}
use Rattle.temporal.specs.Bytes.{contact_at, records, plan_of}
use Rattle.temporal.specs.Cause.{plan_fault}
use Rattle.walks.proofs.PlanLaws.{contact_there, contact_inv, contact_within}
use Rattle.walks.proofs.RuleLaws.{leads_below, leads_none}
use Rattle.walks.proofs.Accepted.{accepted}
use Rattle.lists.proofs.ListLaws.{by_member}
use Rattle.walks.proofs.WalkLaws.{step_inv, ends_nil, ends_cons, ends_step}
use Rattle.layered.specs.Layered.{in_layer, heard_in, raised, layer_of, down, layered_contact, layered}
use Rattle.layered.proofs.PositionLaws.{Placed, up, placed_up, placed_down}
use Rattle.layered.proofs.RecordLaws.{layered_records, layered_contact_law, accepted_sorted}

-- an appearance in a layer
abbrev pub lift : ℕ → Bool → Appearance → Appearance
lift n layer x = record { station = in_layer n layer x.station; slot = x.slot }

-- the positions of a walk that begins in a layer
unfoldable pub lifted : List ℕ → ℕ → Bool → List ℕ → List ℕ
lifted bs v layer [] = []
lifted bs v layer (i ∷ w) = up bs layer i ∷ lifted bs v (heard_in v (contact_at bs i) layer) w

-- the layer in which it ends
unfoldable pub end_layer : List ℕ → ℕ → Bool → List ℕ → Bool
end_layer bs v layer [] = layer
end_layer bs v layer (i ∷ w) = end_layer bs v (heard_in v (contact_at bs i) layer) w

-- ---- a step

-- stations of two layers are the same where layers and stations are
pub layers_same : (n : ℕ) (a b : Bool) (u w : ℕ) → u < n → w < n → in_layer n a u ≡ in_layer n b w → (a ≡ b) × (u ≡ w)
unfolding in_layer
layers_same n false false u w h k e = (refl, e)
layers_same n false true u w h k e = absurd (omega arith)
layers_same n true false u w h k e = absurd (omega arith)
layers_same n true true u w h k e = (refl, omega arith)

-- in a layer a contact leads where it leads in the plan, to the layer in which it is heard
leads_raised : (n v : ℕ) (layer : Bool) (c : Contact) (u : ℕ) → c.sender < n → u < n
    → leads_to (raised n v layer c) (in_layer n layer u) ≡ Option.map (in_layer n (heard_in v c layer)) (leads_to c u)
unfolding leads_to raised
leads_raised n v layer c u h k =
    by_cases (ℕ_discrete u c.sender)
    (λ same. rw (same, eq-eqb (in_layer n layer c.sender) (in_layer n layer c.sender) refl, eq-eqb c.sender c.sender refl))
    (λ other.
    rw (
      ne_eqb u c.sender other,
      ne_eqb (in_layer n layer u) (in_layer n layer c.sender) (λ e. other (layers_same n layer layer u c.sender k h e).1),
    ))

-- a contact leads from its sender alone
pub sent_by : (c : Contact) (u w : ℕ) → leads_to c u ≡ some w → u ≡ c.sender
sent_by c u w e =
    by_cases (ℕ_discrete u c.sender) (λ same. same)
    (λ other. let none-there = leads_none c u other in absurd (let z : ◌≡◌ {A = ℕ} 0 1 = cc in omega arith))

-- what follows from a station also follows from its appearance
along_lifted : (n : ℕ) (layer b : Bool) (u : ℕ) (o : Option ℕ)
    → cond b (Option.map (λ w. record { station = w; slot = u }) (Option.map (in_layer n layer) o)) none
    ≡ Option.map (lift n layer) (cond b (Option.map (λ w. record { station = w; slot = u }) o) none)
along_lifted n layer false u o = refl
along_lifted n layer true u none = refl
along_lifted n layer true u (some w) = refl

-- ---- tests on a value that may be there

module _ {A : Type 0} where
  holds_ext : (o : Option A) {t u : A → Bool} → ((y : A) → o ≡ some y → t y ≡ u y) → holds o t ≡ holds o u
  unfolding holds
  holds_ext none h = refl
  holds_ext (some y) h = h y refl

  holds_and : (o : Option A) (t : A → Bool) (b : Bool) → holds o (λ y. t y && b) ≡ (holds o t && b)
  unfolding holds
  holds_and none t b = refl
  holds_and (some y) t b = refl

holds_map : {A B : Type 0} (o : Option A) (f : A → B) (t : B → Bool) → holds (Option.map f o) t ≡ holds o (λ y. t (f y))
unfolding holds
holds_map none f t = refl
holds_map (some y) f t = refl

-- the station z of layer 1
at_end : (n : ℕ) (layer : Bool) (u z : ℕ) → u < n → z < n → eqb (in_layer n layer u) (n + z) ≡ (eqb u z && layer)
unfolding in_layer
at_end n false u z h k = ne_eqb u (n + z) (omega arith) ∙ sym (and-false (eqb u z))
at_end n true u z h k =
    by_cases (ℕ_discrete u z)
    (λ same. eq-eqb (n + u) (n + z) (omega arith) ∙ sym (rw (eq-eqb u z same)))
    (λ other. ne_eqb (n + u) (n + z) (omega arith) ∙ sym (rw (ne_eqb u z other)))

module _ (bs : List ℕ) (n t : ℕ) (terms : Terms) (v : ℕ) where
  -- the plan, and its layered plan
  abbrev plain : Plan
  plain = plan_of bs n t terms

  abbrev double : Plan
  double = plan_of (layered bs n v) (2 * n) t terms

  along_raised : (layer : Bool) (c : Contact) (x : Appearance) → c.sender < n → x.station < n
      → along double (lift n layer x) (raised n v layer c) ≡ Option.map (lift n (heard_in v c layer)) (along plain x c)
  unfolding along may_follow plan_of raised
  along_raised layer c x h k =
      ap (λ o. cond (may_follow plain x.slot c.slot) (Option.map (λ w. record { station = w; slot = c.slot }) o) none)
      (leads_raised n v layer c x.station h k) ∙
      along_lifted n (heard_in v c layer) (may_follow plain x.slot c.slot) c.slot (leads_to c x.station)

  module _ (ok : plan_fault bs n t ≡ 0) where
    sender_below : (i : ℕ) → i < records bs → (contact_at bs i).sender < n
    sender_below i h = ((accepted bs n t ok).contact i h).sender_station

    -- the contact at a layered position
    raised_there : (q i : ℕ) (layer : Bool) → Placed bs q i layer
        → get_elem? double.contacts q ≡ some (raised n v layer (contact_at bs i))
    unfolding layered_contact
    raised_there q i layer p =
        contact_there (layered bs n v) (2 * n) t terms q (omega (arith, layered_records bs n v, p.below)) ∙
        ap some (layered_contact_law bs n v q p.below ∙ ap₂ (λ l j. raised n v l (contact_at bs j)) p.which p.back)

    -- a step in a layer is a step of the plan, to the layer in which it is heard
    step_lifted : (layer : Bool) (x : Appearance) (i : ℕ) → x.station < n → i < records bs
        → step double (lift n layer x) (up bs layer i) ≡ Option.map (lift n (heard_in v (contact_at bs i) layer)) (step plain x i)
    unfolding step bind
    step_lifted layer x i h k =
        let p = placed_up bs (accepted_sorted bs n t ok) layer i k in
        rw (raised_there (up bs layer i) i layer p, contact_there bs n t terms i k)
        (along_raised layer (contact_at bs i) x (sender_below i k) h)

    step_below : (x : Appearance) (i : ℕ) (y : Appearance) → step plain x i ≡ some y → y.station < n
    step_below x i y e =
        let s = step_inv plain x i e in
        let within = contact_within bs n t terms ok i s.contact s.at_position in
        leads_below s.contact x.station y.station n within.hearer_station s.leads

    -- A lifted walk ends at z in layer 1 exactly where the walk ends at z and a leg of it is sent by v, or it begins in layer 1.
    pub ends_lifted : (z : ℕ) → z < n → (layer : Bool) (x : Appearance) (w : List ℕ) → x.station < n
        → ((i : ℕ) → Memᴰ i w → i < records bs)
        → ends_in double (lift n layer x) (is_at (n + z)) (lifted bs v layer w) ≡ (ends_in plain x (is_at z) w && end_layer bs v layer w)
    unfolding lifted end_layer
    ends_lifted z h layer x [] k fits =
        ends_nil double (lift n layer x) (is_at (n + z)) ∙
        at_end n layer x.station z k h ∙ ap (λ b. b && layer) (sym (ends_nil plain x (is_at z)))
    ends_lifted z h layer x (i ∷ w) k fits =
        let next = heard_in v (contact_at bs i) layer in
        ends_cons double (lift n layer x) (is_at (n + z)) (up bs layer i) (lifted bs v next w) ∙
        ap (λ o. holds o (λ y. ends_in double y (is_at (n + z)) (lifted bs v next w)))
        (step_lifted layer x i k (fits i (Memᴰ.head refl))) ∙
        holds_map (step plain x i) (lift n next) (λ y. ends_in double y (is_at (n + z)) (lifted bs v next w)) ∙
        holds_ext (step plain x i)
        (λ y e. ends_lifted z h next y w (step_below x i y e) (λ j m. fits j (Memᴰ.tail m))) ∙
        holds_and (step plain x i) (λ y. ends_in plain y (is_at z) w) (end_layer bs v next w) ∙
        ap (λ b. b && end_layer bs v next w) (sym (ends_cons plain x (is_at z) i w))

    -- a step from a layer is by a position of that layer
    step_placed : (layer : Bool) (x : Appearance) (q : ℕ) (y : Appearance) → x.station < n → step double (lift n layer x) q ≡ some y
        → Placed bs q (down bs q) layer
    unfolding raised
    step_placed layer x q y h e =
        let s = step_inv double (lift n layer x) q e in
        let inside = (contact_inv (layered bs n v) (2 * n) t terms q s.contact s.at_position).0 in
        let p = placed_down bs (accepted_sorted bs n t ok) q (omega (arith, layered_records bs n v)) in
        let c : some (raised n v (layer_of bs q) (contact_at bs (down bs q))) ≡ some s.contact =
        sym (raised_there q (down bs q) (layer_of bs q) p) ∙ s.at_position in
        let same : raised n v (layer_of bs q) (contact_at bs (down bs q)) ≡ s.contact = cc in
        let from : in_layer n layer x.station ≡ s.contact.sender = sent_by s.contact _ _ s.leads in
        let stations = from ∙ sym (ap (λ (d : Contact). d.sender) same) in
        let layers = (layers_same n layer (layer_of bs q) x.station _ h (sender_below (down bs q) p.there) stations).0 in
        rw layers p

    -- A walk of the layered plan from a layer is the lift of the walk below it.
    pub lifted_back : (test : Appearance → Bool) (layer : Bool) (x : Appearance) (w : List ℕ) → x.station < n
        → ends_in double (lift n layer x) test w ≡ true
        → (w ≡ lifted bs v layer (map (down bs) w)) × ((i : ℕ) → Memᴰ i (map (down bs) w) → i < records bs)
    unfolding lifted
    lifted_back test layer x [] h e = (refl, λ i m. absurd (Memᴰ.not-nil m))
    lifted_back test layer x (q ∷ w) h e =
        let next = heard_in v (contact_at bs (down bs q)) layer in
        let (Y, steps, rest) = ends_step double (lift n layer x) test q w e in
        let p = step_placed layer x q Y h steps in
        let (y, below, whole) = (map-eq-some_iff (lift n next) (step plain x (down bs q))).0
        (sym (step_lifted layer x (down bs q) h p.there) ∙ ap (step double (lift n layer x)) p.upward ∙ steps) in
        let (goes_on, fits) = lifted_back test next y w (step_below x (down bs q) y below)
        (subst (λ a. ends_in double a test w ≡ true) (sym whole) rest) in (
          ap₂ ◌∷◌ (sym p.upward) goes_on,
          λ i m. by_member m (λ e. subst (λ j. j < records bs) (sym e) p.there) (fits i),
        )
