-- What the answer to a read says, and that the bytes read lie within the lent buffer. Which bytes they are is the system's to say: no
-- contract speaks of it. Definitions only.
-- Assumes nothing.
use Rattle.std.specs.Prelude.{ℕ, ◌≡◌, ◌≢◌, ◌≤◌, min, List, Result, Ok, Err}
use Rattle.std.specs.IoError.{error_kind}
use Rattle.std.specs.declared.io.Error.{Error}
use Rattle.std.specs.declared.io.ErrorKind.TheVariants as kind
use Rattle.std.specs.Counts.{IsPrefixLen}
use Rattle.input.specs.declared.ReadFault.{ReadFault}
use Rattle.input.specs.declared.ReadFault.TheVariants as fault

-- an error is an interruption by a signal, or another failure
abbrev pub FaultOf : Error → ReadFault → Type 0
FaultOf e fault.Interrupted = error_kind e ≡ kind.Interrupted
FaultOf e fault.Failed = error_kind e ≢ kind.Interrupted

-- the answer to a read into size bytes: a number of bytes, or a failure, which may be an interruption
abbrev pub PartOf : Result ℕ Error → ℕ → Result ℕ ReadFault → Type 0
PartOf (Ok k) size r = r ≡ Ok (min k size)
PartOf (Err e) size (Err f) = FaultOf e f
PartOf (Err e) size (Ok k) = ⊥

-- one read gives at most as many bytes as it was lent
abbrev pub PartWithin : Result ℕ ReadFault → ℕ → Type 0
PartWithin (Ok k) size = k ≤ size
PartWithin (Err f) size = Unit {0}

-- the bytes read are the first bytes of the buffer; an error says that reading failed, never that it was interrupted
abbrev pub InputWithin : Result ℕ ReadFault → List ℕ → Type 0
InputWithin (Ok k) buf = IsPrefixLen k buf
InputWithin (Err f) buf = f ≡ fault.Failed
