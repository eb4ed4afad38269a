-- What statements begin with: a block or a macro with its name, a blockinherit with the word of its target.
use Rattle.std.proofs.Common.{◌≡◌, true, false, List, refl}
use Rattle.std.specs.Prelude.{Contains, Option, Some, None}
use Rattle.std.specs.Option.{option_map_or}
use Rattle.cil_syntax.specs.declared.kind.Keyword.{Keyword}
use Rattle.cil_syntax.specs.declared.kind.Keyword.TheVariants as keywords
use Rattle.cil_syntax.specs.declared.program.Statement.{Statement}
use Rattle.cil_syntax.specs.declared.term.Word.{Word}
use Rattle.cil_syntax.specs.Program.{IsNested, begins_as, begins_with_word, is_begun, program_of}
use Rattle.cil_syntax.specs.Table.{entry_of}
use Rattle.cil_syntax.specs.Spelling.{is_name}
use Rattle.cil_syntax.specs.Terms.{Leaf, Name, Form, Terms, nil, cons}
use Rattle.cil_syntax.specs.Written.{Named, Written, named_in_front}
use Rattle.cil_blocks.specs.Contents.{first_word, is_block, is_inheriting, is_named}

name_there : (o : Option Named) → option_map_or (λ n. is_name n.name) o false ≡ true → (x : Named) × (o ≡ Some x)
name_there None e = absurd (let f : false ≡ true = e in cc)
name_there (Some x) e = (x, refl)

word_there : (args : Terms Word) → begins_with_word args ≡ true → (x : Word) × (first_word args ≡ Some x)
word_there nil e = absurd (let f : false ≡ true = e in cc)
word_there (cons (Leaf w) ts) e = (w, refl)
word_there (cons (Name at name) ts) e = absurd (let f : false ≡ true = e in cc)
word_there (cons (Form at op parts) ts) e = absurd (let f : false ≡ true = e in cc)

name_in : (k : Keyword) (args : Terms Word) → is_named k ≡ true → is_begun k args ≡ true → (x : Named) × (named_in_front args ≡ Some x)
unfolding begins_as entry_of
name_in keywords.Block args k e = name_there (named_in_front args) e
name_in keywords.Macro args k e = name_there (named_in_front args) e
name_in kw args k e = absurd (let f : false ≡ true = k in cc)

word_in : (k : Keyword) (args : Terms Word) → is_inheriting k ≡ true → is_begun k args ≡ true → (x : Word) × (first_word args ≡ Some x)
unfolding begins_as
word_in keywords.BlockInherit args k e = word_there args e
word_in kw args k e = absurd (let f : false ≡ true = k in cc)

pub block_is_named : (k : Keyword) → is_block k ≡ true → is_named k ≡ true
block_is_named keywords.Block e = refl
block_is_named k e = absurd (let f : false ≡ true = e in cc)

module _ (ss : List Statement) (nested : IsNested ss) where
  pub has_name : (w : Written) → Contains (program_of ss) w → is_named w.statement.keyword ≡ true → (x : Named) × (named_in_front w.statement.args ≡ Some x)
  has_name w c k = name_in w.statement.keyword w.statement.args k (nested.begun w c)

  pub has_word : (w : Written) → Contains (program_of ss) w → is_inheriting w.statement.keyword ≡ true → (x : Word) × (first_word w.statement.args ≡ Some x)
  has_word w c k = word_in w.statement.keyword w.statement.args k (nested.begun w c)
