-- Statements that declare a symbol, by the entry of its name.
use Rattle.std.proofs.Common.{◌≡◌, ◌↔◌, ℕ, Bool, true, false, List, [], ◌∷◌, get_or, refl, sym, ◌∙◌, ap, subst, inl, inr}
use Rattle.std.specs.Prelude.{Contains, None}
use Rattle.std.proofs.lemmas.Bool.{true≢false}
use Rattle.std.proofs.lemmas.Option.{none-some}
use Rattle.cil_base.specs.Lists.{contains_cases, contains_here, contains_none}
use Rattle.cil_faults.specs.Reported.{fault_at}
use Rattle.cil_faults.specs.declared.code.FaultCode.{FaultCode}
use Rattle.cil_faults.specs.declared.fault.Fault.{Fault}
use Rattle.cil_faults.specs.declared.spot.Spot.{Spot}
use Rattle.cil_known.specs.macros.blocks.Space as blocks
use Rattle.cil_syntax.specs.declared.kind.Keyword.{Keyword}
use Rattle.cil_syntax.specs.declared.kind.Keyword.TheVariants as keywords
use Rattle.cil_syntax.specs.declared.kind.Kind.{Kind}
use Rattle.cil_syntax.specs.declared.kind.Sign.{Sign}
use Rattle.cil_syntax.specs.declared.program.Statement.{Statement}
use Rattle.cil_syntax.specs.Forms.{BeginsWithName, name_in_front}
use Rattle.cil_syntax.specs.Kinds.{is_wanted}
use Rattle.cil_syntax.specs.Program.{statement_of}
use Rattle.cil_syntax.specs.Said.{args_of}
use Rattle.cil_syntax.specs.Scopes.{ScopedWord}
use Rattle.cil_syntax.specs.Table.{entry_of}
use Rattle.cil_syntax.specs.Terms.{Name, Terms, cons}
use Rattle.cil_known.specs.macros.Item.{Item, OptSet, is_enabled}
use Rattle.cil_known.specs.macros.Items.{Kept, item_at, placed_at, says_as_written}
use Rattle.cil_known.proofs.macros_lemmas.ItemsThere.{keyword_there}
use Rattle.cil_known.proofs.macros_lemmas.SaidTerms.{SaysTerms, front_said, front_written, terms_there}
use Rattle.cil_known.specs.names.Declarations.{Symbol}
use Rattle.cil_known.specs.names.Entries.{AreEntries, HasNoEntryIn, IsEntryIn}
use Rattle.cil_known.specs.names.Symbols.{symbol_of}
use Rattle.cil_known.specs.names.Entry.{Entry}
use Rattle.cil_known.proofs.names_lemmas.CandidateLemmas.{they_are}
use Rattle.cil_attrs.specs.SetFaults.{DeclaresAt}
use Rattle.cil_attrs.specs.Targets.{IsToldAt}
use Rattle.cil_attrs.proofs.FaultLemmas.{its_entry}

-- a statement that declares something says what is written
pub declares_written : (keyword : Keyword) (kind : Kind) → Contains (entry_of keyword).declares kind → says_as_written keyword ≡ true
unfolding entry_of
declares_written keywords.BlockInherit kind c = absurd (contains_none kind c)
declares_written keywords.BlockAbstract kind c = absurd (contains_none kind c)
declares_written keywords.Call kind c = absurd (contains_none kind c)
declares_written keyword kind c = refl

-- the kind that a keyword declares
pub declares_one : (keyword : Keyword) (kind declared : Kind) → (entry_of keyword).declares ≡ declared ∷ [] → (declared ≡ kind) ↔ Contains (entry_of keyword).declares kind
declares_one keyword kind declared e = (
  λ same. subst (λ ks. Contains ks kind) (sym e) (subst (Contains (declared ∷ [])) same (contains_here declared [])),
  λ c. elim (contains_cases kind declared [] (subst (λ ks. Contains ks kind) e c)) [ inl same ↦ same | inr none ↦ absurd (contains_none kind none) ],
)

pub declares_none : (keyword : Keyword) (kind : Kind) → (entry_of keyword).declares ≡ [] → Contains (entry_of keyword).declares kind → ⊥
declares_none keyword kind e c = contains_none kind (subst (λ ks. Contains ks kind) e c)

-- an item that says what is written, whether its words may say lists or not
pub record SaysWritten (st : Statement) (x : Item) : Type 0 where
  pub keyword : x.keyword ≡ st.keyword
  pub args : says_as_written st.keyword ≡ true → SaysTerms (args_of st) x.args

pub said_so : (i : Kept) (at : ℕ) (st : Statement) → statement_of st ≡ (placed_at i at).standing.statement.statement → SaysWritten st (item_at i at)
said_so i at st is = record { keyword = keyword_there i at st is; args = terms_there i at st is }

module _ (ss : List blocks.Space) (es : List Entry) (xs : List Item) (s : OptSet) (kind : Kind) (flags : List Bool) (x : Item) where
  pub left_out : is_enabled s x ≡ false → (code : FaultCode) (f : Fault) → IsToldAt ss es xs s kind code flags x f → ⊥
  left_out off code f t = true≢false (sym t.declares.enabled ∙ off)

  pub other_kind : (st : Statement) → x.keyword ≡ st.keyword → (Contains (entry_of st.keyword).declares kind → ⊥) → (code : FaultCode) (f : Fault) → IsToldAt ss es xs s kind code flags x f → ⊥
  other_kind st same none code f t = none (subst (λ k. Contains (entry_of k).declares kind) same t.declares.of_kind)

  module _ (st : Statement) (said : SaysWritten st x) where
    module _ (declares : Contains (entry_of st.keyword).declares kind) where
      args_are : SaysTerms (args_of st) x.args
      args_are = said.args (declares_written st.keyword kind declares)

      pub no_name : name_in_front (args_of st) ≡ None → (code : FaultCode) (f : Fault) → IsToldAt ss es xs s kind code flags x f → ⊥
      no_name none code f t =
          let (more, is) = front_written (args_of st) x.args args_are t.at t.name t.declares.rest t.declares.says in
          none-some t.name (sym none ∙ ap name_in_front is)

      module _ (at : Spot) (name : List ℕ) (begins : BeginsWithName (args_of st) at name) where
        front : BeginsWithName x.args at name
        front = front_said (args_of st) x.args args_are at name begins

        abbrev rest : Terms ScopedWord
        rest = front.0

        says : x.args ≡ cons (Name at name) rest
        says = front.1

        same_name : (code : FaultCode) (f : Fault) (t : IsToldAt ss es xs s kind code flags x f) → (t.at ≡ at) × (t.name ≡ name)
        same_name code f t = let e : cons (Name t.at t.name) t.declares.rest ≡ cons (Name at name) rest = sym t.declares.says ∙ says in (cc, cc)

        module _ (sign : Sign) (wanted : is_wanted sign kind ≡ true) (entries : AreEntries ss xs es) where
          its_place : (code : FaultCode) (f : Fault) (t : IsToldAt ss es xs s kind code flags x f) → (space_is : (symbol_of ss t.entry.entry).space ≡ x.space) × ((symbol_of ss t.entry.entry).name ≡ name)
          its_place code f t = (ap (λ (z : Symbol). z.space) t.entry.symbol, ap (λ (z : Symbol). z.name) t.entry.symbol ∙ (same_name code f t).1)

          pub no_entry : HasNoEntryIn ss es name sign x.space → (code : FaultCode) (f : Fault) → IsToldAt ss es xs s kind code flags x f → ⊥
          no_entry none code f t =
              let (space, named) = its_place code f t in
              none t.place t.entry.entry t.entry.at (they_are ss name sign x.space t.entry.entry space named (ap (is_wanted sign) t.entry.of_kind ∙ wanted))

          module _ (d : ℕ) (entry : IsEntryIn ss es name sign x.space d) where
            place_is : (code : FaultCode) (f : Fault) (t : IsToldAt ss es xs s kind code flags x f) → t.place ≡ d
            place_is code f t =
                let (space, named) = its_place code f t in
                entry.only t.place t.entry.entry t.entry.at (they_are ss name sign x.space t.entry.entry space named (ap (is_wanted sign) t.entry.of_kind ∙ wanted))

            pub not_flagged : get_or flags d false ≡ false → (code : FaultCode) (f : Fault) → IsToldAt ss es xs s kind code flags x f → ⊥
            not_flagged none code f t = true≢false (sym t.flagged ∙ ap (λ n. get_or flags n false) (place_is code f t) ∙ none)

            pub flagged : Contains xs x → is_enabled s x ≡ true → get_or flags d false ≡ true → (code : FaultCode) (f : Fault) → IsToldAt ss es xs s kind code flags x f ↔ (f ≡ fault_at code at x.space name)
            flagged member on flag code f = (
              λ t. let (spot, same) = same_name code f t in t.told ∙ (λ j. fault_at code (spot j) x.space (same j)),
              λ told.
                  let declares_at : DeclaresAt xs s kind x at name = record { is_item = member; enabled = on; rest = rest; says = says; of_kind = subst (λ k. Contains (entry_of k).declares kind) (sym said.keyword) declares } in
                  let (c, e) = its_entry xs s kind x at name declares_at ss es entries in
                  let same : c ≡ d = entry.only c e.entry e.at (they_are ss name sign x.space e.entry (ap (λ (z : Symbol). z.space) e.symbol) (ap (λ (z : Symbol). z.name) e.symbol) (ap (is_wanted sign) e.of_kind ∙ wanted)) in
                  record {
                    at = at;
                    name = name;
                    place = c;
                    declares = declares_at;
                    entry = e;
                    flagged = ap (λ n. get_or flags n false) same ∙ flag;
                    told = told;
                  },
            )
