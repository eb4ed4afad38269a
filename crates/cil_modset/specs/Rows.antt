-- Texts in rows: lists that follow one another in byte order.
use Rattle.std.specs.Prelude.{◌≡◌, ◌↔◌, ℕ, ◌+◌, ◌^◌, ◌<◌, Bool, true, false, List, [], ◌∷◌, length, take, drop, Contains, All, Result, Ok, IfErr, OnErr}
use Rattle.std.specs.Global.{Vec}
use Rattle.std.specs.List.{flat_map}
use Rattle.cil_sexpr.specs.declared.fault.ReadError.{ReadError}
use Rattle.cil_sexpr.specs.Refusal.{Refuses}
use Rattle.cil_sexpr.specs.Text.{IsReadable}
use Rattle.cil_modset.specs.Modules.{IsBelow, IsRising, IsUnion, texts_of}

-- the texts of some rows, one row behind another
abbrev pub joined : List (Vec (Vec ℕ)) → List (List ℕ)
joined rows = flat_map (λ row. texts_of row.items) rows

-- the row has a text
abbrev pub IsFilled : Vec (Vec ℕ) → Type 0
IsFilled row = 0 < length row.items

-- the texts rise from row to row, and no row is empty
pub record AreInOrder (rows : List (Vec (Vec ℕ))) : Type 0 where
  pub rising : IsRising (joined rows)
  pub filled : All IsFilled rows

-- rows in order, with this many texts
pub record AreRows (rows : List (Vec (Vec ℕ))) (count : ℕ) : Type 0 where
  pub order : AreInOrder rows
  pub count_is : count ≡ length (joined rows)
  pub fits : count < 2 ^ 63

-- the row in which a text has its place: what is in the rows before it is before the text, and what is in the rows behind it is behind the text
pub record IsHomeOf (rows : List (Vec (Vec ℕ))) (text : List ℕ) (home : ℕ) : Type 0 where
  pub within : home < length rows
  pub before : (t : List ℕ) → Contains (joined (take home rows)) t → IsBelow t text
  pub behind : (t : List ℕ) → Contains (joined (drop (home + 1) rows)) t → IsBelow text t

-- what became of a text that was offered to some texts, and whether it is new: as an installation, with the number of texts
pub record IsOffered (old : List (List ℕ)) (text : List ℕ) (result : Result Bool ReadError) (new : List (List ℕ)) : Type 0 where
  pub known : (result ≡ Ok false) ↔ Contains old text
  pub stays : result ≡ Ok false → new ≡ old
  pub union : result ≡ Ok true → IsUnion old (text ∷ []) new
  pub one_more : result ≡ Ok true → length new ≡ length old + 1
  pub readable : result ≡ Ok true → IsReadable text
  pub refusal : IfErr result (Refuses text)
  pub err : OnErr result (new ≡ old)
