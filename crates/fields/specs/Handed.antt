-- What the readers still have, and what they hand out.
use Rattle.std.specs.Prelude.{◌≡◌, ℕ, List, [], ◌∷◌, length, take, drop, Option, MatchOption}
use Rattle.fields.specs.declared.token.Token.{Token}
use Rattle.fields.specs.Parts.{lines_of, fields_from}
use Rattle.fields.specs.Told.{told, told_of, text_of, place_of}

-- an input, and the place where its next line starts
pub record InputCursor : Type 0 where
  pub input : List ℕ
  pub place : ℕ

-- the lines still to be handed out
abbrev pub lines_left : InputCursor → List (List ℕ)
lines_left s = lines_of (drop s.place s.input)

-- the text t is the first line that s has, and s' has the others
pub record TextHanded (s : InputCursor) (t : List ℕ) (s' : InputCursor) : Type 0 where
  pub first : lines_left s ≡ t ∷ lines_left s'
  pub same : s'.input ≡ s.input

-- a line, and the place where its next field starts
pub record Cursor : Type 0 where
  pub line : List ℕ
  pub place : ℕ

-- the fields still to be handed out
abbrev pub fields_left : Cursor → List (List ℕ)
fields_left s = fields_from s.line s.place

-- the token t is the first field that s has, with its place and its sort, and s' has the others
pub record TokenHanded (s : Cursor) (t : Token) (s' : Cursor) : Type 0 where
  pub first : fields_left s ≡ text_of t ∷ fields_left s'
  pub sort : told_of t ≡ told (text_of t)
  pub place : place_of t ≡ s.place
  pub part : text_of t ≡ take (length (text_of t)) (drop (place_of t) s.line)
  pub same : s'.line ≡ s.line

abbrev pub FieldHanded : Cursor → Option Token → Cursor → Type 0
FieldHanded s r s' = MatchOption r ((fields_left s ≡ []) × (s' ≡ s)) (λ t. TokenHanded s t s')
