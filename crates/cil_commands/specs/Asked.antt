-- What tables reply to a query where each boolean has its default, and what bytes reply that may be those of tables. The SELinux Notebook,
-- "Computing Access Decisions"; the replies are this project's profile.
use Rattle.std.specs.Prelude.{◌≡◌, ◌↔◌, ℕ, Bool, true, List, Option, Some, Err, slice_get}
use Rattle.cil_commands.specs.declared.reply.End.{End}
use Rattle.cil_commands.specs.declared.reply.End.TheVariants as ends
use Rattle.cil_commands.specs.Told.{LeavesReply}
use Rattle.cil_server.specs.Masks.{IsReplyOf}
use Rattle.cil_server.specs.Replies.{of_query_fault, refused}
use Rattle.cil_server.specs.host.QueryFault.{QueryFault}
use Rattle.cil_server.specs.host.QueryFault.TheVariants.{NoPolicy, BadSource, BadTarget, NoClass, NoPermission, NoBoolean}
use Rattle.cil_server.specs.decide_crate.Decides.{IsDecisionOf, IsOnAtFirst}
use Rattle.cil_server.specs.decide_crate.Decision.{Decision}
use Rattle.cil_server.specs.classes.Class.{Class}
use Rattle.cil_server.specs.constraints_crate.Context.{Context}
use Rattle.cil_server.specs.table_bytes.Layout.{IsCanonical, table_in}
use Rattle.cil_server.specs.format.Codes.{code_of}
use Rattle.cil_server.specs.format.TableFault.{TableFault}
use Rattle.cil_server.specs.tables.Meaning.{IsClassAt, IsContext}
use Rattle.cil_server.specs.tables.Table.{Table}

module _ (t : Table) (source target class_name : List ℕ) where
  -- the decision of the tables on two valid contexts and a class with these permissions, where just the booleans are on that are so by default
  pub record Decides (permissions : List (List ℕ)) (d : Decision) : Type 0 where
    pub from : Context
    pub onto : Context
    pub number : ℕ
    pub row : Class
    pub on : ℕ → Bool
    pub a_source : IsContext t source from
    pub a_target : IsContext t target onto
    pub is_row : slice_get t.classes number ≡ Some row
    pub named : row.name ≡ class_name
    pub has : permissions ≡ row.permissions
    pub defaults : (boolean : ℕ) → (on boolean ≡ true) ↔ IsOnAtFirst t.booleans boolean
    pub decided : IsDecisionOf t on row from onto number d

  -- the text is no valid context of the tables
  abbrev pub IsNoContext : List ℕ → Type 0
  IsNoContext text = (c : Context) → IsContext t text c → ⊥

  -- the text is one
  abbrev pub IsSomeContext : List ℕ → Type 0
  IsSomeContext text = (c : Context) × IsContext t text c

  -- why there is no decision: the first of these faults
  abbrev pub Declines : QueryFault → Type 0
  Declines BadSource = IsNoContext source
  Declines BadTarget = IsSomeContext source × IsNoContext target
  Declines NoClass = IsSomeContext source × IsSomeContext target × ((number : ℕ) → IsClassAt t number class_name → ⊥)
  Declines NoPolicy = ⊥
  Declines NoPermission = ⊥
  Declines NoBoolean = ⊥

  -- the reply of the tables, and how the command ends
  pub data Replies : List ℕ → End → Type 0 where
    decides : (permissions : List (List ℕ)) (d : Decision) (reply : List ℕ) → Decides permissions d → IsReplyOf permissions d reply → Replies reply ends.Done
    declines : (fault : QueryFault) → Declines fault → Replies (of_query_fault fault) ends.Refused

-- what bytes reply that may be those of tables
module _ (bytes source target class_name : List ℕ) where
  -- the reply to a query of bytes: that of the tables whose bytes they are, or the first fault of bytes that are no tables
  pub data RepliesOf : List ℕ → End → Type 0 where
    asked : (t : Table) (reply : List ℕ) (ending : End) → IsCanonical bytes t → Replies t source target class_name reply ending → RepliesOf reply ending
    unreadable : (fault : TableFault) → table_in bytes ≡ Err fault → RepliesOf (refused (code_of fault)) ends.Refused

  -- what is left of the writer's bytes, where they are known, and how the command ended
  pub data LeavesAnswer (before after : Option (List ℕ)) (result : End) : Type 0 where
    -- there was no memory for the tables or the buffer: nothing was written
    nothing : result ≡ ends.NoMemory → after ≡ before → LeavesAnswer before after result
    replied : (ending : End) → LeavesReply (λ reply. RepliesOf reply ending) before after ending result → LeavesAnswer before after result
