-- The layered plan of a station v (the field's layered graph): every record twice, once in each of two layers of stations. Station u of
-- layer 0 is u, of layer 1 it is n + u, and a reading goes to layer 1 when it leaves v. So a walk from s in layer 0 to z in layer 1 is a
-- walk from s to z that leaves v on the way. Definitions only.
-- Assumes nothing.
use Rattle.std.specs.Prelude.{ℕ, ◌+◌, ◌-◌, ◌*◌, ◌/◌, Bool, true, false, cond, ◌||◌, ltb, leb, eqb}
use mathlib.Core.List.{List, [], ◌∷◌, flat_map}
use Rattle.temporal.specs.Lists.{from, below, first_where}
use Rattle.temporal.specs.Plan.{Contact}
use Rattle.temporal.specs.Bytes.{contact_at, records}

-- station u in layer 0 (false) or layer 1 (true)
unfoldable pub in_layer : ℕ → Bool → ℕ → ℕ
in_layer n false u = u
in_layer n true u = n + u

-- the plan's station of a station of either layer
unfoldable pub lowered : ℕ → ℕ → ℕ
lowered n u = cond (ltb u n) u (u - n)

-- a contact with the plan's stations of its ends
abbrev pub lowered_contact : ℕ → Contact → Contact
lowered_contact n c = record { slot = c.slot; sender = lowered n c.sender; hearer = lowered n c.hearer }

-- the layer in which a reading that is sent in a layer is heard: in layer 1 from v on
unfoldable pub heard_in : ℕ → Contact → Bool → Bool
heard_in v c layer = layer || eqb v c.sender

-- a contact whose sender is in a layer
unfoldable pub raised : ℕ → ℕ → Bool → Contact → Contact
raised n v layer c =
    record { slot = c.slot; sender = in_layer n layer c.sender; hearer = in_layer n (heard_in v c layer) c.hearer }

-- The first position of a record in slot u or later, the number of records where there is none. As slots rise with the positions, it is the
-- number of records in slots before u.
unfoldable pub slot_start : List ℕ → ℕ → ℕ
slot_start bs u = first_where (records bs) (λ i. leb u (contact_at bs i).slot) (below (records bs))

-- Within each slot stand first all of its records in layer 0, then all of them in layer 1. With lo the first position of a slot and hi the
-- one past its last, these are the layered positions from 2 lo to before 2 hi; so position q is in the slot of the plan's position q / 2.
unfoldable pub slot_at : List ℕ → ℕ → ℕ
slot_at bs q = (contact_at bs (q / 2)).slot

-- how far a position of slot u moves up in a layer: by lo in layer 0, by hi in layer 1
unfoldable pub shift : List ℕ → ℕ → Bool → ℕ
shift bs u false = slot_start bs u
shift bs u true = slot_start bs (u + 1)

-- the layer of a layered position: layer 1 begins in a slot at lo + hi
unfoldable pub layer_of : List ℕ → ℕ → Bool
layer_of bs q = leb (shift bs (slot_at bs q) false + shift bs (slot_at bs q) true) q

-- the plan's position of a layered position
unfoldable pub down : List ℕ → ℕ → ℕ
down bs q = q - shift bs (slot_at bs q) (layer_of bs q)

-- the contact at a layered position
unfoldable pub layered_contact : List ℕ → ℕ → ℕ → ℕ → Contact
layered_contact bs n v q = raised n v (layer_of bs q) (contact_at bs (down bs q))

-- the six bytes of a contact whose numbers are below 256
abbrev pub record_bytes : Contact → List ℕ
record_bytes c = 0 ∷ c.slot ∷ 0 ∷ c.sender ∷ 0 ∷ c.hearer ∷ []

-- the bytes of the contacts f q, f (q + 1), .., k of them
abbrev pub bytes_from : (ℕ → Contact) → ℕ → ℕ → List ℕ
bytes_from f q k = flat_map (λ i. record_bytes (f i)) (from q k)

-- The layered plan's bytes: each record of the plan twice.
unfoldable pub layered : List ℕ → ℕ → ℕ → List ℕ
layered bs n v = bytes_from (layered_contact bs n v) 0 (2 * records bs)
