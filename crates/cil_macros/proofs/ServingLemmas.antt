-- The parameter for which a word stands: how the table of parameters grows, and what a word finds in it.
use Rattle.std.proofs.Common.{◌≡◌, ℕ, suc, ◌+◌, ◌<◌, ◌≤◌, ◌==◌, ◌&&◌, ◌⊎◌, Bool, true, false, cond, if◌then◌else◌, List, [], ◌∷◌, ◌++◌, length, get_or, drop, refl, sym, ◌∙◌, ap, inl, inr, arith}
use Rattle.std.specs.Prelude.{Option, Some, None, is_some}
use Rattle.std.specs.Cmp.Lexicographic.{same_text}
use Rattle.std.specs.Map.{lookup}
use Rattle.std.specs.Option.{option_map, option_or}
use Rattle.std.proofs.lemmas.Bool.{eqb-true, and_parts}
use Rattle.std.proofs.lemmas.List.{drop_all}
use denote.Ref.{Bor}
use Rattle.cil_base.specs.Places.{some_same}
use Rattle.cil_faults.specs.declared.spot.Spot.{Spot}
use Rattle.cil_syntax.specs.declared.kind.Sign.{Sign}
use Rattle.cil_syntax.specs.declared.program.Statement.{Statement}
use Rattle.cil_syntax.specs.declared.term.Op.{Op}
use Rattle.cil_syntax.specs.declared.term.Term as rust
use Rattle.cil_syntax.specs.declared.term.Word.{Word}
use Rattle.cil_syntax.specs.Forms.{kind_and_name, parameter_form}
use Rattle.cil_syntax.specs.Program.{program_of}
use Rattle.cil_syntax.specs.Said.{all_said, said_of}
use Rattle.cil_syntax.specs.Spelling.{same_bytes}
use Rattle.cil_syntax.specs.Terms.{Term, Leaf, Name, Form, Terms, nil, cons}
use Rattle.cil_syntax.specs.Written.{Named, Written, is_macro}
use Rattle.cil_blocks.specs.Entries.{statement_at}
use Rattle.cil_blocks.proofs.ProgramLemmas.{program_length}
use Rattle.cil_macros.specs.declared.parameters.Parameters as code
use Rattle.cil_macros.specs.Meant.{first_for, is_for}
use Rattle.cil_macros.specs.NamedParameters.{AreAdded, AreNamed, AreNamedUpTo, IsAdded, Key, first_at, is_at, is_key, is_served_place, number_at, same_key}
use Rattle.cil_macros.specs.Parameters.{ArgumentKind, Parameter, Place, argument_kind, is_place, macro_parameters, parameter_in, parameters_in, place_number, place_of, serves_sign}
use Rattle.cil_macros.proofs.ArgumentLemmas.{first_left, one_parameter}
use Rattle.cil_macros.proofs.FirstLemmas.{or_itself, or_put}
use Rattle.cil_macros.proofs.WalkLemmas.{number_of_macro}

-- ---- what is no parameter is passed over

no_parameter_in : (ts : Terms Word) → kind_and_name ts ≡ None → parameter_in ts ≡ []
no_parameter_in nil e = refl
no_parameter_in (cons (Leaf w) ts) e = refl
no_parameter_in (cons (Name at bytes) ts) e = refl
no_parameter_in (cons (Form at op parts) nil) e = refl
no_parameter_in (cons (Form at op parts) (cons (Leaf w) ts)) e = refl
no_parameter_in (cons (Form at op parts) (cons (Name bt bytes) ts)) e = cc
no_parameter_in (cons (Form at op parts) (cons (Form bt other more) ts)) e = refl

pub no_parameter : (t : Term Word) (more : Terms Word) → parameter_form t ≡ None → parameters_in (cons t more) ≡ parameters_in more
no_parameter (Leaf w) more e = refl
no_parameter (Name at bytes) more e = refl
no_parameter (Form at op parts) more e = ap (λ xs. xs ++ parameters_in more) (no_parameter_in parts e)

-- ---- numbers and truth values

-- a number counted on
abbrev pub counted : ℕ → Option ℕ → Option ℕ
counted n None = None
counted n (Some k) = Some (n + k)

counted_none : (o : Option ℕ) → counted 0 o ≡ o
counted_none None = refl
counted_none (Some k) = ap Some (let e : 0 + k ≡ k = omega arith in e)

counted_more : (n : ℕ) (o : Option ℕ) → counted n (option_map (λ k. suc k) o) ≡ counted (n + 1) o
counted_more n None = refl
counted_more n (Some k) = ap Some (let e : n + suc k ≡ n + 1 + k = omega arith in e)

and_false : (a : Bool) → (a && false) ≡ false
and_false true = refl
and_false false = refl

joined : (a b c : Bool) → (a && (b && c)) ≡ ((a && b) && c)
joined true b c = refl
joined false b c = refl

swapped : (a b : Bool) → (a && b) ≡ (b && a)
swapped true true = refl
swapped true false = refl
swapped false true = refl
swapped false false = refl

same_either_way : (a b : ℕ) → (a == b) ≡ (b == a)
same_either_way a b = grind arith

itself : (n : ℕ) → (n == n) ≡ true
itself n = grind arith

other : (a b : ℕ) → (a < b) ⊎ (b < a) → (a == b) ≡ false
other a b h = grind (arith, h)

or_none : (o : Option ℕ) → option_or o None ≡ o
or_none None = refl
or_none (Some n) = refl

-- ---- places

no_place : (o : Option ArgumentKind) (place : ℕ) → None ≡ option_map (λ k. place_number k.serves) o → is_served_place o place ≡ false
no_place None place e = refl
no_place (Some a) place e = cc

one_place : (o : Option ArgumentKind) (p place : ℕ) → Some p ≡ option_map (λ k. place_number k.serves) o → is_served_place o place ≡ (p == place)
one_place None p place e = cc
one_place (Some a) p place e = ap (λ n. n == place) (sym (some_same p (place_number a.serves) e))

-- ---- keys

key_same : (a b : Key) → same_key a b ≡ true → (a.0 ≡ b.0) × (a.1 ≡ b.1) × (a.2.now ≡ b.2.now)
key_same a b e =
    let t = and_parts ((a.0 == b.0) && (a.1 == b.1)) (same_bytes a.2.now b.2.now) e in
    let u = and_parts (a.0 == b.0) (a.1 == b.1) t.0 in
    (eqb-true a.0 b.0 u.0, eqb-true a.1 b.1 u.1, same_text a.2.now b.2.now (sym t.1))

-- keys of one macro, place and name have one value
alike : (ps : code.Parameters) (a b : Key) → same_key a b ≡ true → number_at ps a ≡ number_at ps b
alike ps a b e =
    let t = key_same a b e in
    ap (λ (p : ℕ × ℕ × List ℕ). lookup (is_key p.0 p.1 p.2) ps.numbers.entries) (λ i. (t.0 i, t.1 i, t.2 i))

-- ---- one parameter more

module _ (number before : ℕ) (kind : Op) (at : Spot) (name : Bor (List ℕ)) where
  abbrev x : Parameter
  x = record { kind = kind; name = record { at = at; name = name.now } }

  -- arguments of its kind serve no place
  pub unserved : (old : code.Parameters) → None ≡ option_map (λ k. place_number k.serves) (argument_kind kind) → IsAdded number before x old old
  unserved old e k =
      let no : ((number == k.0) && is_at k x) ≡ false =
      ap (λ b. (number == k.0) && (b && same_bytes name.now k.2.now)) (no_place (argument_kind kind) k.1 e) ∙ and_false (number == k.0) in
      sym (or_none (number_at old k)) ∙ ap (λ b. option_or (number_at old k) (if b then Some before else None)) (sym no)

  module _ (place : ℕ) (e : Some place ≡ option_map (λ k. place_number k.serves) (argument_kind kind)) where
    abbrev key : Key
    key = (number, place, name)

    by_key : (k : Key) → same_key key k ≡ ((number == k.0) && is_at k x)
    by_key k =
        sym (joined (number == k.0) (place == k.1) (same_bytes name.now k.2.now))
        ∙ ap (λ b. (number == k.0) && (b && same_bytes name.now k.2.now)) (sym (one_place (argument_kind kind) place k.1 e))

    -- one like it is there
    pub known : (old : code.Parameters) → true ≡ is_some (number_at old key) → IsAdded number before x old old
    known old there k =
        or_itself (number_at old k) ((number == k.0) && is_at k x) before (λ t. ap is_some (sym (alike old key k (by_key k ∙ t))) ∙ sym there)

    pub added : (old new : code.Parameters) → false ≡ is_some (number_at old key)
        → ((k : Key) → number_at new k ≡ cond (same_key key k) (Some before) (number_at old k)) → IsAdded number before x old new
    added old new none put k =
        put k
        ∙ ap (λ b. cond b (Some before) (number_at old k)) (by_key k)
        ∙ or_put (number_at old k) ((number == k.0) && is_at k x) before (λ t. ap is_some (sym (alike old key k (by_key k ∙ t))) ∙ sym none)

-- ---- the parameters of a macro, term by term

one_put : (o rest : Option ℕ) (mine here : Bool) (n : ℕ)
    → option_or o (if mine then counted n (if here then Some 0 else option_map (λ k. suc k) rest) else None)
    ≡ option_or (option_or o (if mine && here then Some n else None)) (if mine then counted (n + 1) rest else None)
one_put (Some m) rest mine here n = refl
one_put None rest false here n = refl
one_put None rest true true n = ap Some (let e : n + 0 ≡ n = omega arith in e)
one_put None rest true false n = counted_more n rest

module _ (m number : ℕ) (terms : List rust.Term) (old : code.Parameters) where
  abbrev left : Key → ℕ → Option ℕ
  left k i = first_at k (parameters_in (all_said m (drop i terms)))

  -- what is there in the end is what the table has, and else what is left
  abbrev pub AreLeft : ℕ → ℕ → code.Parameters → Type 0
  AreLeft i n now = (n ≤ i) × ((k : Key)
      → option_or (number_at old k) (if number == k.0 then left k 0 else None) ≡ option_or (number_at now k) (if number == k.0 then counted n (left k i) else None))

  pub begun : AreLeft 0 0 old
  begun = (omega arith, λ k. ap (λ o. option_or (number_at old k) (if number == k.0 then o else None)) (sym (counted_none (left k 0))))

  module _ (i n : ℕ) (t : rust.Term) (within : i < length terms) (is : t ≡ get_or terms i t) (now : code.Parameters) (so : AreLeft i n now) where
    here : parameters_in (all_said m (drop i terms)) ≡ parameters_in (cons (said_of m t) (all_said m (drop (i + 1) terms)))
    here = ap parameters_in (first_left m terms i t within is)

    pub one_added : (kind : Op) (name : Named) (new : code.Parameters) → parameter_form (said_of m t) ≡ Some (kind, name)
        → IsAdded number n record { kind = kind; name = name } now new → AreLeft (i + 1) (n + 1) new
    one_added kind name new e put =
        let h = so.0 in (
          omega (arith, h),
          λ k.
              so.1 k
              ∙ ap (λ xs. option_or (number_at now k) (if number == k.0 then counted n (first_at k xs) else None))
              (here ∙ one_parameter (said_of m t) kind name (all_said m (drop (i + 1) terms)) e)
              ∙ one_put (number_at now k) (left k (i + 1)) (number == k.0) (is_at k record { kind = kind; name = name }) n
              ∙ ap (λ o. option_or o (if number == k.0 then counted (n + 1) (left k (i + 1)) else None)) (sym (put k)),
        )

    pub passed_over : parameter_form (said_of m t) ≡ None → AreLeft (i + 1) n now
    passed_over e =
        let h = so.0 in (
          omega (arith, h),
          λ k. so.1 k
              ∙ ap (λ xs. option_or (number_at now k) (if number == k.0 then counted n (first_at k xs) else None))
              (here ∙ no_parameter (said_of m t) (all_said m (drop (i + 1) terms)) e),
        )

  -- none is left
  pub all_added : (i n : ℕ) (new : code.Parameters) → length terms ≤ i → AreLeft i n new → AreAdded number (parameters_in (all_said m terms)) old new
  all_added i n new over so k =
      sym (or_none (number_at new k))
      ∙ ap (option_or (number_at new k)) (sym (nothing_left (number == k.0)))
      ∙ ap (λ ts. option_or (number_at new k) (if number == k.0 then counted n (first_at k (parameters_in (all_said m ts))) else None)) (sym (drop_all i terms over))
      ∙ sym (so.1 k)
    where
      nothing_left : (b : Bool) → (if b then counted n (first_at k (parameters_in (all_said m []))) else None) ≡ None
      nothing_left true = refl
      nothing_left false = refl

-- ---- one statement more

module _ (ws : List Written) (number : ℕ) (old : code.Parameters) (before : AreNamedUpTo ws number old) where
  pub no_macro : is_macro (statement_at ws number).statement.keyword ≡ false → AreNamedUpTo ws (number + 1) old
  no_macro e = record {
    before = λ k h f. elim (last k.0 h) [
      | inl g ↦ before.before k g f
      | inr g ↦ absurd (let n : true ≡ false = sym f ∙ ap (λ i. is_macro (statement_at ws i).statement.keyword) g ∙ e in cc)
    ];
    behind = λ k h. before.behind k (omega (arith, h));
  }
    where
      last : (i : ℕ) → i < number + 1 → (i < number) ⊎ (i ≡ number)
      last i h = grind (arith, h)

  module _ (new : code.Parameters) (put : AreAdded number (macro_parameters (statement_at ws number).statement.args) old new) where
    elsewhere : (k : Key) → (number < k.0) ⊎ (k.0 < number) → number_at new k ≡ number_at old k
    elsewhere k h =
        put k
        ∙ ap (λ b. option_or (number_at old k) (if b then first_at k (macro_parameters (statement_at ws number).statement.args) else None)) (other number k.0 h)
        ∙ or_none (number_at old k)

    here_now : (k : Key) → k.0 ≡ number → number_at new k ≡ first_at k (macro_parameters (statement_at ws k.0).statement.args)
    here_now k e =
        put k
        ∙ ap (λ o. option_or o (if number == k.0 then first_at k (macro_parameters (statement_at ws number).statement.args) else None)) (before.behind k (omega (arith, e)))
        ∙ ap (λ b. if b then first_at k (macro_parameters (statement_at ws number).statement.args) else None) (ap (λ i. number == i) e ∙ itself number)
        ∙ ap (λ i. first_at k (macro_parameters (statement_at ws i).statement.args)) (sym e)

    pub macro_added : AreNamedUpTo ws (number + 1) new
    macro_added = record {
      before = λ k h f. elim (last k.0 h) [ inl g ↦ elsewhere k (inr g) ∙ before.before k g f | inr g ↦ here_now k g ];
      behind = λ k h. elsewhere k (inl (omega (arith, h))) ∙ before.behind k (omega (arith, h));
    }
      where
        last : (i : ℕ) → i < number + 1 → (i < number) ⊎ (i ≡ number)
        last i h = grind (arith, h)

-- ---- all statements

pub none_named : (ws : List Written) (ps : code.Parameters) → ps.numbers.entries ≡ [] → AreNamedUpTo ws 0 ps
none_named ws ps e = record {
  before = λ k h f. absurd (let g : ⊥ = omega (arith, h) in g);
  behind = λ k h. ap (lookup (same_key k)) e;
}

pub all_named : (ss : List Statement) (ps : code.Parameters) (n : ℕ) → length ss ≤ n → AreNamedUpTo (program_of ss) n ps → AreNamed (program_of ss) ps
all_named ss ps n over so k e =
    let h = number_of_macro (program_of ss) k.0 e in
    let l = program_length ss in
    so.before k (omega (arith, h, l, over)) e

-- ---- what a word finds

module _ (w : Word) where
  served : (s : Option Place) (o : Option ArgumentKind) (sign : Sign) (place : ℕ) → place_of sign ≡ s → Some place ≡ option_map place_number s
      → is_served_place o place ≡ serves_sign o sign
  served None o sign place e f = cc
  served (Some q) None sign place e f = refl
  served (Some q) (Some a) sign place e f =
      ap (λ n. place_number a.serves == n) (some_same place (place_number q) f)
      ∙ same_either_way (place_number a.serves) (place_number q)
      ∙ sym (ap (λ s. is_place s a.serves) e)

  module _ (number place : ℕ) (name : Bor (List ℕ)) (at_place : Some place ≡ option_map place_number (place_of w.sign)) (named : name.now ≡ w.bytes) where
    abbrev asked : Key
    asked = (number, place, name)

    one_found : (x : Parameter) → is_at asked x ≡ is_for w x
    one_found x =
        ap (λ b. b && same_bytes x.name.name name.now) (served (place_of w.sign) (argument_kind x.kind) w.sign place refl at_place)
        ∙ swapped (serves_sign (argument_kind x.kind) w.sign) (same_bytes x.name.name name.now)
        ∙ ap (λ bytes. same_bytes x.name.name bytes && serves_sign (argument_kind x.kind) w.sign) named

    pub found : (xs : List Parameter) → first_at asked xs ≡ first_for w xs
    found [] = refl
    found (x ∷ xs) =
        ap (λ b. if b then Some 0 else option_map (λ n. suc n) (first_at asked xs)) (one_found x)
        ∙ ap (λ o. if is_for w x then Some 0 else option_map (λ n. suc n) o) (found xs)

  -- a word of no place stands for nothing
  no_one : (s : Option Place) (o : Option ArgumentKind) (sign : Sign) → place_of sign ≡ s → None ≡ option_map place_number s → serves_sign o sign ≡ false
  no_one (Some q) o sign e f = cc
  no_one None None sign e f = refl
  no_one None (Some a) sign e f = ap (λ s. is_place s a.serves) e

  pub none_found : None ≡ option_map place_number (place_of w.sign) → (xs : List Parameter) → None ≡ first_for w xs
  none_found e [] = refl
  none_found e (x ∷ xs) =
      sym (ap (λ b. if b then Some 0 else option_map (λ n. suc n) (first_for w xs))
      (ap (λ b. same_bytes x.name.name w.bytes && b) (no_one (place_of w.sign) (argument_kind x.kind) w.sign refl e) ∙ and_false (same_bytes x.name.name w.bytes))
      ∙ ap (option_map (λ n. suc n)) (sym (none_found e xs)))
