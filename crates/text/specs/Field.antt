-- Words and numbers of a line of text. Definitions only.
-- Assumes nothing.
use Rattle.std.specs.Prelude.{ℕ, List, [], ◌∷◌, ◌++◌}
use Prim.Native.Char.{code}
use Prim.Native.String.{String}
use Prim.Native.String as string
use Rattle.text.specs.Decimal.{decimal}

-- the ASCII codes of a text
abbrev pub ascii : String → List ℕ
ascii string.[] = []
ascii (string.◌∷◌ c s) = code c ∷ ascii s

-- a space, and the line feed that ends every line
abbrev pub space : List ℕ
space = 32 ∷ []

abbrev pub line_feed : List ℕ
line_feed = 10 ∷ []

-- a number in decimal, and what stands behind it
unfoldable pub field : ℕ → List ℕ → List ℕ
field x behind = decimal x ++ behind

-- three numbers, each with what stands behind it
unfoldable pub fields : ℕ → List ℕ → ℕ → List ℕ → ℕ → List ℕ → List ℕ
fields x a y b z c = field x a ++ field y b ++ field z c

-- a label, then three numbers, each with what stands behind it
unfoldable pub labelled : List ℕ → ℕ → List ℕ → ℕ → List ℕ → ℕ → List ℕ → List ℕ
labelled label x a y b z c = label ++ fields x a y b z c
