-- What first way and next way answer, as a reply of the definitions, and what a call asks about. Definitions only.
-- Assumes nothing.
use Rattle.std.specs.Prelude.{ℕ, List, Result, Ok, Err}
use Rattle.temporal.specs.Plan.{units}
use Rattle.temporal.specs.Cursor.{Reply, path, no_path, last_path, refused}
use Rattle.temporal.specs.FirstNext.{Question}
use Rattle.plan.specs.declared.Fault.{Fault}
use Rattle.plan.specs.Fault.{fault_number}
use Rattle.listing.specs.declared.WayAnswer.{WayAnswer}
use Rattle.listing.specs.declared.WayAnswer.TheVariants.{Path, NoPath, LastPath}

-- the reply that an answer of the code is; a fault stands for its number
abbrev pub reply_of : Result WayAnswer Fault → Reply
reply_of (Ok (Path h)) = path h
reply_of (Ok NoPath) = no_path
reply_of (Ok LastPath) = last_path
reply_of (Err f) = refused (fault_number f)

-- what a call with these arguments asks about
abbrev pub question : List ℕ → ℕ → ℕ → ℕ → ℕ → ℕ → ℕ → Question
question bs n t g h s z =
    record { bytes = bs; stations = n; slots = t; terms = units g h; source = s; destination = z }
