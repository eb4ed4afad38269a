-- What tables reply to a query, case by case.
use Rattle.std.proofs.Common.{◌≡◌, ◌≤◌, ◌∙◌, List, ap, arith, length, subst, sym, ℕ}
use Rattle.std.specs.Prelude.{◌↔◌, Err, Some, slice_get, unwrap_or}
use Rattle.std.proofs.lemmas.Option.{slice_get_within}
use Rattle.cil_commands.specs.Asked.{Decides, Declines, Replies, RepliesOf}
use Rattle.cil_commands.specs.declared.reply.End.TheVariants as ends
use Rattle.cil_server.specs.conditions.Bits.{IsOn, is_on}
use Rattle.cil_server.proofs.host_lemmas.SettingLemmas.{on_true}
use Rattle.cil_server.specs.Replies.{of_query_fault, refused}
use Rattle.cil_server.specs.host.QueryFault.{QueryFault}
use Rattle.cil_server.specs.decide_crate.Decides.{Decided, IsOnAtFirst}
use Rattle.cil_server.specs.classes.Class.{Class}
use Rattle.cil_server.specs.constraints_crate.Context.{Context}
use Rattle.cil_server.specs.decide_crate.Decision.{Decision}
use Rattle.cil_server.specs.table_bytes.Layout.{table_in}
use Rattle.cil_server.specs.format.Codes.{code_of}
use Rattle.cil_server.specs.format.TableFault.{TableFault}
use Rattle.cil_server.specs.tables.Meaning.{IsClassAt, IsContext}
use Rattle.cil_server.specs.tables.Table.{Table}

module _ (t : Table) (source target class_name : List ℕ) where
  -- a fault
  pub declined : (fault : QueryFault) (bytes : List ℕ) → Declines t source target class_name fault → bytes ≡ of_query_fault fault
      → Replies t source target class_name bytes ends.Refused
  declined fault bytes declines is = subst (λ b. Replies t source target class_name b ends.Refused) (sym is) (Replies.declines fault declines)

  -- a class that has a number has a row
  pub has_row : (number : ℕ) (rows : List Class) → IsClassAt t number class_name → rows ≡ t.classes → length rows ≤ number → ⊥
  has_row number rows at same over =
      let within = slice_get_within rows number at.row (ap (λ rs. slice_get rs number) same ∙ at.is_row) in absurd (omega (arith, within, over))

  module _ (from onto : Context) (number : ℕ) (a_source : IsContext t source from) (a_target : IsContext t target onto) (at : IsClassAt t number class_name) where
    -- a decision
    pub decides_by : (words : List ℕ) (rows : List Class) (row : Class) (permissions : List (List ℕ)) (d : Decision) → rows ≡ t.classes → slice_get rows number ≡ Some row
        → permissions ≡ row.permissions → ((n : ℕ) → IsOn words n ↔ IsOnAtFirst t.booleans n) → Decided t (is_on words) from onto number d
        → Decides t source target class_name permissions d
    decides_by words rows row permissions d same there has defaults decided =
        let one : row ≡ at.row = ap (λ o. unwrap_or o row) (sym there ∙ ap (λ rs. slice_get rs number) same ∙ at.is_row) in
        record {
          from = from;
          onto = onto;
          number = number;
          row = at.row;
          on = is_on words;
          a_source = a_source;
          a_target = a_target;
          is_row = at.is_row;
          named = at.named;
          has = has ∙ ap (λ (r : Class). r.permissions) one;
          defaults = λ n. (λ on. (defaults n).0 ((on_true words n).1 on), λ first. (on_true words n).0 ((defaults n).1 first));
          decided = rw at.is_row at decided;
        }

-- bytes that are no tables
pub unreadable : (bytes source target class_name reply : List ℕ) (fault : TableFault) → table_in bytes ≡ Err fault → reply ≡ refused (code_of fault)
    → RepliesOf bytes source target class_name reply ends.Refused
unreadable bytes source target class_name reply fault is says =
    subst (λ b. RepliesOf bytes source target class_name b ends.Refused) (sym says) (RepliesOf.unreadable fault is)
