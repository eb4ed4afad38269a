-- A blockinherit has one target where no two written blocks of one namespace share a name.
use Rattle.std.proofs.Common.{◌≡◌, ◌⊎◌, Bool, true, false, ◌&&◌, List, [], ◌∷◌, refl, sym, ◌∙◌, ap, inl, inr}
use Rattle.std.specs.Prelude.{Contains, Some}
use Rattle.std.specs.Cmp.Lexicographic.{same_text}
use Rattle.cil_syntax.specs.Spelling.{same_bytes}
use Rattle.cil_faults.specs.declared.spot.Spot.{Spot}
use Rattle.cil_syntax.specs.declared.kind.Keyword.{Keyword}
use Rattle.cil_syntax.specs.declared.kind.Keyword.TheVariants as keywords
use Rattle.cil_blocks.specs.Contents.{is_block, is_named, is_block_named, same_spot, Target, name_of}
use Rattle.cil_blocks.specs.InheritFaults.{InheritFault, written_twice}
use Rattle.cil_faults.specs.Namespaces.{Namespace}
use Rattle.cil_syntax.specs.Scopes.{same_space, asked}
use Rattle.cil_faults.specs.declared.fault.Fault.{Fault}
use Rattle.cil_syntax.specs.declared.term.Word.{Word}
use Rattle.cil_syntax.specs.Written.{Written, Named, named_in_front}
use Rattle.cil_blocks.specs.Laws.{HasOneTarget}
use Rattle.cil_blocks.specs.OneStanding.{AreApart}
use Rattle.cil_base.specs.Places.{some_same}

-- two namespaces that compare alike are one
pub same_spaces : (a b : Namespace) → same_space a b ≡ true → a ≡ b
same_spaces [] [] e = refl
same_spaces [] (y ∷ ys) e = absurd (let f : false ≡ true = e in cc)
same_spaces (x ∷ xs) [] e = absurd (let f : false ≡ true = e in cc)
same_spaces (x ∷ xs) (y ∷ ys) e =
    let both = two (same_bytes x y) (same_space xs ys) e in
    let head : x ≡ y = same_text x y (sym both.0) in
    let tail = same_spaces xs ys both.1 in
    λ i. head i ∷ tail i where
      two : (a b : Bool) → (a && b) ≡ true → (a ≡ true) × (b ≡ true)
      two true b e = (refl, e)
      two false b e = absurd (let f : false ≡ true = e in cc)

pub three : (a b c : Bool) → (a && b && c) ≡ true → (a ≡ true) × (b ≡ true) × (c ≡ true)
three true true c e = (refl, refl, e)
three true false c e = absurd (let f : false ≡ true = e in cc)
three false true c e = absurd (let f : false ≡ true = e in cc)
three false false c e = absurd (let f : false ≡ true = e in cc)

block_is_named : (k : Keyword) → is_block k ≡ true → is_named k ≡ true
block_is_named keywords.Block e = refl
block_is_named k e = absurd (let f : false ≡ true = e in cc)

module _ (ws : List Written) (are_apart : AreApart ws) (same_or_not : (a b : Spot) → (a ≡ b) ⊎ (a ≡ b → ⊥))
    (begins : (w : Written) → Contains ws w → is_block w.statement.keyword ≡ true → (x : Named) × (named_in_front w.statement.args ≡ Some x))
    (no_fault : (f : Fault) → InheritFault ws f → ⊥) where
  one_of_two : (b c : Written) → Contains ws b → Contains ws c → is_block b.statement.keyword ≡ true → is_block c.statement.keyword ≡ true
      → name_of b ≡ name_of c → b.context.space ≡ c.context.space → (b.statement.at ≡ c.statement.at) ⊎ (b.statement.at ≡ c.statement.at → ⊥) → b ≡ c
  one_of_two b c cb cc' kb kc name space (inl e) = are_apart.one b c cb cc' e
  one_of_two b c cb cc' kb kc name space (inr differ) =
      let x = begins b cb kb in
      absurd (no_fault _ (written_twice b c x.0 cb cc'
      (record { first = block_is_named b.statement.keyword kb; second = block_is_named c.statement.keyword kc; one_name = name; differ = differ }) space x.1))

  pub one_target : HasOneTarget ws
  one_target w b c s t =
      let word = some_same s.word t.word (sym s.is_word ∙ t.is_word) in
      let space = some_same s.space t.space (sym s.found ∙ ap (Rattle.cil_blocks.specs.Contents.block_space ws w.context.space) word ∙ t.found) in
      let p = three _ _ _ s.named in
      let q = three _ _ _ t.named in
      let names : name_of b ≡ name_of c = same_text _ _ (sym p.1) ∙ ap (λ (v : Word). (asked v.bytes).name) word ∙ sym (same_text _ _ (sym q.1)) in
      one_of_two b c s.is_written t.is_written p.0 q.0 names (same_spaces _ _ p.2 ∙ space ∙ sym (same_spaces _ _ q.2)) (same_or_not b.statement.at c.statement.at)
