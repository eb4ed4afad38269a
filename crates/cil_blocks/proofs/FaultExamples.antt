-- The worked rows of 31, 32 and 33, by the definitions.
use Rattle.std.proofs.Common.{◌≡◌, ℕ, false, List, [], ◌∷◌, refl, sym, ◌∙◌, ap, inl, arith}
use Rattle.std.specs.Prelude.{codes, Some, None}
use Rattle.cil_faults.specs.declared.code.FaultCode.{FaultCode}
use Rattle.cil_faults.specs.declared.code.FaultCode.TheVariants as causes
use Rattle.cil_faults.specs.declared.fault.Fault.{Fault}
use Rattle.cil_syntax.specs.declared.kind.Keyword.{Keyword}
use Rattle.cil_syntax.specs.declared.kind.Keyword.TheVariants as keywords
use Rattle.cil_syntax.specs.declared.kind.Nesting.TheVariants as nestings
use Rattle.cil_syntax.specs.declared.kind.Sign.TheVariants as signs
use Rattle.cil_syntax.specs.declared.term.Op.TheVariants as ops
use Rattle.cil_faults.specs.declared.spot.Spot.{Spot}
use Rattle.cil_syntax.specs.declared.term.Word.{Word}
use Rattle.cil_syntax.specs.Scopes.{apart, chain}
use Rattle.cil_syntax.specs.Terms.{Leaf, Name, Form, Terms, nil, cons}
use Rattle.cil_syntax.specs.Written.{Written, at_top}
use Rattle.cil_blocks.specs.Contents.{Target, block_space, has_block, is_abstract, standing_in_block, standing_inherited, standing_top}
use Rattle.cil_blocks.specs.InheritFaults.{Gives, InheritFault, cycle, directly, handed, own, standing_twice, texts, unresolved, written_twice}
use Rattle.cil_base.specs.Places.{get_contains, some_same}

abbrev spot : ℕ → Spot
spot at = record { «module» = 0; at = at }

abbrev fault : FaultCode → ℕ → List ℕ → List ℕ → Fault
fault code at space bytes = record { code = code; «module» = 0; at = at; space = space; word = bytes }

abbrev block_word : ℕ → List ℕ → Word
block_word at bytes = record { at = spot at; bytes = bytes; sign = signs.Blocks }

abbrev on_top : Keyword → ℕ → Terms Word → Written
on_top k at args = record { context = at_top; statement = record { keyword = k; at = spot at; args = args } }

abbrev in_block : ℕ → List ℕ → Keyword → ℕ → Terms Word → Written
in_block under name k at args = record {
  context = record { nesting = nestings.InBlock; space = name ∷ []; under = Some (spot under); macro = None };
  statement = record { keyword = k; at = spot at; args = args };
}

apart_places : (a b : ℕ) → (a ≡ b → ⊥) → spot a ≡ spot b → ⊥
apart_places a b h e = h (ap (λ (s : Spot). s.at) e)

-- ---- `(block b)(macro b ())`: 31 at both names

abbrev block_b : Written
block_b = on_top keywords.Block 0 (cons (Name (spot 7) (codes "b")) nil)

abbrev macro_b : Written
macro_b = on_top keywords.Macro 9 (cons (Name (spot 16) (codes "b")) (cons (Form (spot 18) ops.Parameters nil) nil))

abbrev two : List Written
two = block_b ∷ macro_b ∷ []

row_31_block : InheritFault two (fault causes.NameTwice 7 [] (codes "b"))
row_31_block =
    written_twice block_b macro_b (record { at = spot 7; name = codes "b" }) (get_contains two 0 block_b refl) (get_contains two 1 macro_b refl)
    (record { first = refl; second = refl; one_name = refl; differ = apart_places 0 9 (λ e. omega (arith, e)) }) refl refl

row_31_macro : InheritFault two (fault causes.NameTwice 16 [] (codes "b"))
row_31_macro =
    written_twice macro_b block_b (record { at = spot 16; name = codes "b" }) (get_contains two 1 macro_b refl) (get_contains two 0 block_b refl)
    (record { first = refl; second = refl; one_name = refl; differ = apart_places 9 0 (λ e. omega (arith, e)) }) refl refl

-- ---- `(blockinherit nob)`: 32

abbrev inherit_nob : Written
inherit_nob = on_top keywords.BlockInherit 0 (cons (Leaf (block_word 14 (codes "nob"))) nil)

no_such_block : block_space (inherit_nob ∷ []) [] (block_word 14 (codes "nob")) ≡ None
unfolding block_space has_block chain apart
no_such_block = refl

row_32 : InheritFault (inherit_nob ∷ []) (fault causes.InheritUnresolved 14 [] (codes "nob"))
row_32 =
    unresolved inherit_nob (block_word 14 (codes "nob")) (get_contains (inherit_nob ∷ []) 0 inherit_nob refl) refl refl
    (λ b t. let same : block_word 14 (codes "nob") ≡ t.word = some_same _ _ t.is_word in
    let gone : None ≡ Some t.space = sym no_such_block ∙ ap (block_space (inherit_nob ∷ []) []) same ∙ t.found in cc)

-- ---- `(block b (blockinherit b))`: 33 in namespace b

abbrev inherit_b : Written
inherit_b = in_block 0 (codes "b") keywords.BlockInherit 9 (cons (Leaf (block_word 23 (codes "b"))) nil)

abbrev cyclic : List Written
cyclic = block_b ∷ inherit_b ∷ []

own_space : block_space cyclic (codes "b" ∷ []) (block_word 23 (codes "b")) ≡ Some []
unfolding block_space has_block chain apart
own_space = refl

row_33 : InheritFault cyclic (fault causes.InheritCycle 23 (codes "b") (codes "b"))
row_33 =
    cycle inherit_b block_b block_b (block_word 23 (codes "b")) (get_contains cyclic 1 inherit_b refl) refl refl
    (record { word = block_word 23 (codes "b"); is_word = refl; space = []; found = own_space; is_written = get_contains cyclic 0 block_b refl; named = refl })
    (inl refl) (directly inherit_b (get_contains cyclic 1 inherit_b refl) refl)

-- ---- `(block b (macro m ()))(block d (blockinherit b)(macro m ()))`: 31 in the contents of d alone

abbrev first_m : Written
first_m = in_block 0 (codes "b") keywords.Macro 9 (cons (Name (spot 16) (codes "m")) (cons (Form (spot 18) ops.Parameters nil) nil))

abbrev block_d : Written
block_d = on_top keywords.Block 22 (cons (Name (spot 29) (codes "d")) nil)

abbrev inherits : Written
inherits = in_block 22 (codes "d") keywords.BlockInherit 31 (cons (Leaf (block_word 45 (codes "b"))) nil)

abbrev second_m : Written
second_m = in_block 22 (codes "d") keywords.Macro 48 (cons (Name (spot 55) (codes "m")) (cons (Form (spot 57) ops.Parameters nil) nil))

abbrev inherited_twice : List Written
inherited_twice = block_b ∷ first_m ∷ block_d ∷ inherits ∷ second_m ∷ []

space_of_b : block_space inherited_twice (codes "d" ∷ []) (block_word 45 (codes "b")) ≡ Some []
unfolding block_space has_block chain apart
space_of_b = refl

not_abstract : is_abstract inherited_twice block_d ≡ false
unfolding is_abstract
not_abstract = refl

gives_own : Gives inherited_twice (codes "d" ∷ []) (Some block_d)
gives_own = own [] None block_d texts (get_contains inherited_twice 2 block_d refl) refl refl not_abstract

target_b : Target inherited_twice inherits block_b
target_b = record {
  word = block_word 45 (codes "b");
  is_word = refl;
  space = [];
  found = space_of_b;
  is_written = get_contains inherited_twice 0 block_b refl;
  named = refl;
}

row_31_contents : InheritFault inherited_twice (fault causes.NameTwice 16 (codes "b") (codes "m"))
row_31_contents =
    standing_twice first_m second_m (codes "d" ∷ []) (Some block_b) (Some block_d) (record { at = spot 16; name = codes "m" }) (get_contains inherited_twice 1 first_m refl)
    (get_contains inherited_twice 4 second_m refl)
    (record { first = refl; second = refl; one_name = refl; differ = apart_places 9 48 (λ e. omega (arith, e)) })
    (handed (codes "d" ∷ []) (Some block_d) inherits block_b gives_own (get_contains inherited_twice 3 inherits refl) refl refl target_b) refl gives_own refl refl

-- ---- what is in a block that is inherited sees the namespace where it is inherited, then what was round it

scope_in_d : (standing_inherited (standing_in_block (standing_top block_d) inherits) block_b first_m).scope ≡ (codes "d" ∷ []) ∷ [] ∷ []
unfolding apart chain
scope_in_d = refl
