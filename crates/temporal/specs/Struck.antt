-- A plan without one of its records, and what the loss of a contact does to the loads (document 02, C-23). Definitions only.
-- Assumes nothing.
use Rattle.std.specs.Prelude.{ℕ, suc, ◌+◌, ◌*◌, Bool, not, cond, ◌&&◌, List, ◌++◌, ltb, eqb, ℤ, pos, negsuc, ◌-ℤ◌, take, drop}
use Rattle.temporal.specs.Lists.{select, any, member}
use Rattle.temporal.specs.Plan.{Plan}
use Rattle.temporal.specs.Shortest.{shortest_walks_to}
use Rattle.temporal.specs.Load.{Ends, ends_below, load}

-- a list without k entries from place i on
unfoldable pub lacking : {A : Type 0} → ℕ → ℕ → List A → List A
lacking i k l = take i l ++ drop (i + k) l

-- The plan without the record at position i, "struck out". Stations, slots and terms stay; later records move down by one position.
unfoldable pub struck_out : Plan → ℕ → Plan
struck_out p i =
    record { stations = p.stations; slots = p.slots; contacts = lacking i 1 p.contacts; terms = p.terms }

-- its bytes lack those six
abbrev pub lacking_record : List ℕ → ℕ → List ℕ
lacking_record bs i = lacking (i * 6) 6 bs

-- whether some shortest walk from s to z uses the contact at position i: document 02's least chain "that uses the contact"
unfoldable pub uses : Plan → ℕ → ℕ → ℕ → Bool
uses p i s z = any (member i) (shortest_walks_to p s z)

-- whether e is a pair of two different stations that uses the contact at position i
abbrev pub is_user : Plan → ℕ → Ends → Bool
is_user p i e = not (eqb e.source e.destination) && uses p i e.source e.destination

-- The ordered pairs that in the plan with the record have a shortest walk that uses the contact.
unfoldable pub pairs_using : Plan → ℕ → List Ends
pairs_using p i = select (is_user p i) (ends_below p.stations p.stations)

-- A station's change of load, a whole number with its sign: "the load without the record less the load with it".
unfoldable pub change : Plan → ℕ → ℕ → ℤ
change p i v = pos (load (struck_out p i) v) -ℤ pos (load p v)

-- how large a change is, up or down
unfoldable pub magnitude : ℤ → ℕ
magnitude (pos k) = k
magnitude (negsuc k) = suc k

-- For inner contracts: the position, in the plan with the record at i, of the contact that has position j in the plan without it.
unfoldable pub position_with : ℕ → ℕ → ℕ
position_with i j = cond (ltb j i) j (j + 1)
