-- The order of contacts by their fields in turn is the one that the definition says.
-- Assumes nothing.
use mathlib.Core.Path.{◌≡◌, refl}
use lib.Dec.{ltb, eqb}
use mathlib.Core.Bool.{Bool, true, false, cond, ◌||◌, ◌&&◌}
use Rattle.std.specs.Prelude.{Option, Some}
use Rattle.std.proofs.Common.{Ordering, Less, Equal, Greater}
use Rattle.std.specs.Ordering.{is_lt, is_some_and, partial_lt, partial_ordering_then}
use Rattle.temporal.specs.Cause.{is_above}
use Rattle.plan.specs.Record.{contact_of}
use Rattle.plan.specs.declared.Contact.{Contact}
use Rattle.plan.specs.contracts.ContactPartialOrd.TheImpl.{partial_cmp-value}

abbrev ordering : Bool → Bool → Option Ordering
ordering less same = Some (cond less Less (cond same Equal Greater))

in_turn :
    (l e l' e' l'' e'' : Bool) →
    is_some_and is_lt (partial_ordering_then (ordering l e) (partial_ordering_then (ordering l' e') (ordering l'' e'')))
    ≡ (l || e && (l' || e' && l''))
in_turn true e l' e' l'' e'' = refl
in_turn false true true e' l'' e'' = refl
in_turn false true false true true e'' = refl
in_turn false true false true false true = refl
in_turn false true false true false false = refl
in_turn false true false false l'' e'' = refl
in_turn false false l' e' l'' e'' = refl

pub lt_is_above : (a b : Contact) → partial_lt partial_cmp-value.it a b ≡ is_above (contact_of a) (contact_of b)
unfolding is_above
lt_is_above a b =
    in_turn (ltb a.slot b.slot) (eqb a.slot b.slot) (ltb a.sender b.sender) (eqb a.sender b.sender)
    (ltb a.hearer b.hearer) (eqb a.hearer b.hearer)
