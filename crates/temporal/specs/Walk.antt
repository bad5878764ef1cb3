-- Walks and paths. A walk is written down as the list of its contacts' positions. Definitions only.
-- Assumes nothing.
use Rattle.std.specs.Prelude.{ℕ, ◌≡◌, Bool, true, false, not, cond, ◌&&◌, List, [], ◌∷◌, map, eqb, length}
use Rattle.std.proofs.Math.Option
use Rattle.std.proofs.Math.Option.{Option, none, some, bind}
use Rattle.std.proofs.Math.ListN.{get_elem?}
use Rattle.temporal.specs.Lists.{member, distinct}
use Rattle.temporal.specs.Plan.{Contact, Plan, Appearance, start, leads_to, may_follow}

-- the appearance to which a contact takes a reading from appearance x, or none where a rule forbids it
unfoldable pub along : Plan → Appearance → Contact → Option Appearance
along p x c =
    cond (may_follow p x.slot c.slot)
    (Option.map (λ v. record { station = v; slot = c.slot }) (leads_to c x.station))
    none

-- the same for the contact at position i; none too where the plan has no such position
unfoldable pub step : Plan → Appearance → ℕ → Option Appearance
step p x i = bind (get_elem? p.contacts i) (along p x)

-- The appearances that the positions w lead to from x, one for each, in turn; none where w is no walk from x.
-- Document 01's chain, document 000's strict temporal walk (Def. 2). The empty list is a walk.
unfoldable pub run : Plan → Appearance → List ℕ → Option (List Appearance)
run p x [] = some []
run p x (i ∷ w) = bind (step p x i) (λ y. Option.map (◌∷◌ y) (run p y w))

-- the last of a run, or where it began if it is empty
unfoldable pub last_or : Appearance → List Appearance → Appearance
last_or x [] = x
last_or x (y ∷ l) = last_or y l

-- the stations of a list of appearances
abbrev pub stations_of : List Appearance → List ℕ
stations_of l = map (λ x. x.station) l

-- whether there is a value and it passes a test
unfoldable pub holds : {A : Type 0} → Option A → (A → Bool) → Bool
holds none t = false
holds (some a) t = t a

-- whether w is a walk from x whose last appearance passes a test
unfoldable pub ends_in : Plan → Appearance → (Appearance → Bool) → List ℕ → Bool
ends_in p x t w = holds (run p x w) (λ l. t (last_or x l))

-- whether x is the appearance (v, t)
abbrev pub is_appearance : ℕ → ℕ → Appearance → Bool
is_appearance v t x = eqb x.station v && eqb x.slot t

-- whether x is an appearance of station z
abbrev pub is_at : ℕ → Appearance → Bool
is_at z x = eqb x.station z

-- whether w is a walk from s to station z, in whatever slot: document 000's strict temporal walk from s to z (Def. 2)
abbrev pub is_walk_to : Plan → ℕ → ℕ → List ℕ → Bool
is_walk_to p s z = ends_in p (start s) (is_at z)

-- whether w is a walk from s to the appearance (v, t)
unfoldable pub is_walk : Plan → ℕ → ℕ → ℕ → List ℕ → Bool
is_walk p s v t = ends_in p (start s) (is_appearance v t)

-- Whether w is a path from s to z: a walk from s that ends at z and visits no station twice, s counted.
-- Document 01's way, document 002's temporal path (Def. 2.2); document 000's (Def. 3) where s and z differ. From a
-- station to itself the empty list is the only one.
unfoldable pub is_path : Plan → ℕ → ℕ → List ℕ → Bool
is_path p s z w = holds (run p (start s) w) (λ l. is_at z (last_or (start s) l) && distinct (s ∷ stations_of l))

-- Whether station v is inside the walk w from s to z: visited, once or more often, and neither s nor z. Document 01's inside,
-- document 002's Int(P) (section 2). An end is never inside.
unfoldable pub is_interior : Plan → ℕ → ℕ → ℕ → List ℕ → Bool
is_interior p s z v w = not (eqb v s) && (not (eqb v z) && holds (run p (start s) w) (λ l. member v (stations_of l)))

-- The walk w from s to z has exactly k stations inside, all different: those of a list.
pub record HasInside (p : Plan) (s z : ℕ) (w : List ℕ) (k : ℕ) : Type 0 where
  pub stations : List ℕ
  pub exactly : (v : ℕ) → is_interior p s z v w ≡ member v stations
  pub different : distinct stations ≡ true
  pub number : length stations ≡ k
