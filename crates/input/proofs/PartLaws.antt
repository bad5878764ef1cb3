-- What the answer to a read is. Assumes nothing.
use Rattle.std.specs.Prelude.{ℕ, ◌≡◌, ◌≢◌, min, Result, Ok, Err}
use Rattle.std.specs.IoError.{error_kind}
use Rattle.std.specs.declared.io.Error.{Error}
use Rattle.std.specs.declared.io.ErrorKind.TheVariants as kind
use Rattle.std.proofs.Common.{ap, arith}
use Rattle.input.specs.declared.ReadFault.{ReadFault}
use Rattle.input.specs.declared.ReadFault.TheVariants as fault
use Rattle.input.specs.Input.{PartOf, PartWithin}

pub interrupted_part : (e : Error) (n : ℕ) → error_kind e ≡ kind.Interrupted → PartOf (Err e) n (Err fault.Interrupted)
interrupted_part e n is = is

pub failed_part : (e : Error) (n : ℕ) → error_kind e ≢ kind.Interrupted → PartOf (Err e) n (Err fault.Failed)
failed_part e n is = is

pub got_part : (j n k : ℕ) → k ≡ min j n → PartOf (Ok j) n (Ok k)
got_part j n k is = ap Ok is

-- with the buffer's length as it was before the read
pub part_within : (got : Result ℕ Error) (n m : ℕ) (r : Result ℕ ReadFault) → n ≡ m → PartOf got n r → PartWithin r m
part_within (Ok k) n m r same is = rw is (omega arith)
part_within (Err e) n m (Ok j) same is = absurd is
part_within (Err e) n m (Err f) same is = tt
