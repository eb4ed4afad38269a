-- The reply of a command, what it leaves of the writer, and how the command ends. The bytes are those of the replies of a session. This
-- project's profile.
use Rattle.std.specs.Prelude.{◌≡◌, ◌++◌, ℕ, Bool, true, false, List, codes, Option}
use Rattle.std.specs.Io.KnownBytes.{Appends}
use Rattle.std.specs.List.Sorted.{IsStrictlySortedBy}
use Rattle.cil_base.specs.Lists.{text_cmp}
use Rattle.cil_commands.specs.declared.reply.End.{End}
use Rattle.cil_commands.specs.declared.reply.End.TheVariants as ends
use Rattle.cil_commands.specs.declared.reply.Reply.{Reply}
use Rattle.cil_commands.specs.declared.reply.Reply.TheVariants.{Loaded, Faults, NoMemory, Decided, Declined, Unreadable}
use Rattle.cil_server.specs.Devices.{AppendsFront}
use Rattle.cil_server.specs.Given.{Gives, GivesCounted}
use Rattle.cil_server.specs.Masks.{IsReplyOf}
use Rattle.cil_server.specs.Replies.{newline, no_memory, of_loaded, of_query_fault, refused, spaced}
use Rattle.cil_server.specs.Streams.{OutputState}
use Rattle.cil_server.specs.format.Codes.{code_of}

-- these are the bytes of the reply
abbrev pub Says : Reply → List ℕ → Type 0
Says (Loaded loaded) bytes = bytes ≡ of_loaded loaded
Says (Faults count lines) bytes = bytes ≡ codes "FAULTS" ++ spaced count ++ newline ++ lines.now
Says NoMemory bytes = bytes ≡ no_memory
Says (Decided permissions decision) bytes = IsReplyOf permissions.now decision bytes
Says (Declined fault) bytes = bytes ≡ of_query_fault fault
Says (Unreadable fault) bytes = bytes ≡ refused (code_of fault)

-- the bytes of the reply, told
pub record TellsReply (reply : Reply) (tells : List ℕ → Type 0) : Type 0 where
  pub bytes : List ℕ
  pub says : Says reply bytes
  pub told : tells bytes

-- the permissions of a decision rise
abbrev pub IsOrderly : Reply → Type 0
IsOrderly (Decided permissions decision) = IsStrictlySortedBy text_cmp permissions.now
IsOrderly reply = Unit {0}

-- how a command with this reply ends
abbrev pub end_of : Reply → End
end_of (Loaded loaded) = ends.Done
end_of (Faults count lines) = ends.Refused
end_of NoMemory = ends.NoMemory
end_of (Decided permissions decision) = ends.Done
end_of (Declined fault) = ends.Refused
end_of (Unreadable fault) = ends.Refused

-- the end, where the reply is written; or the writer failed
abbrev pub sent_end : Bool → End → End
sent_end true ending = ending
sent_end false ending = ends.WriteFailed

-- all of the reply is written; or one call of the writer failed, and the first of the reply is written
pub record IsSent (before after : OutputState) (reply : List ℕ) (is_sent : Bool) : Type 0 where
  pub gives : Gives before.written after.written reply is_sent
  pub counts : GivesCounted before.failures after.failures is_sent

-- what a reply leaves of the writer's bytes, where they are known, and how the command ends that would end so
pub data LeavesReply (says : List ℕ → Type 0) (before after : Option (List ℕ)) (ending : End) : End → Type 0 where
  -- the whole reply is written behind what was there
  whole : (reply : List ℕ) → says reply → Appends before after reply → LeavesReply says before after ending ending
  -- the writer failed: the first of the reply is written
  part : (reply : List ℕ) → says reply → AppendsFront before after reply → LeavesReply says before after ending ends.WriteFailed

-- how many calls of the writer failed in a command that ended so
abbrev pub end_failures : End → ℕ
end_failures ends.WriteFailed = 1
end_failures ends.Done = 0
end_failures ends.Refused = 0
end_failures ends.NoMemory = 0
