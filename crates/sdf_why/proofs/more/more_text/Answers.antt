use Rattle.std.proofs.Common.{sym}
use Rattle.toml.specs.View.{view}
use Rattle.sdf_document.specs.Fault.{fault_view}
use Rattle.sdf_document.specs.Document.{document_view}
use Rattle.sdf_why.specs.More.{read, no_tables, unread}
use Rattle.sdf_why.proofs.more.more_text.Goals as goal

pub returns-in_default : goal.returns-in_default
returns-in_default c = no_tables (sym (rw c.in_default.is at c.in_ok-tables.ensures)) c.new.ensures.bytes

pub returns-in-Ok : goal.returns-in-Ok
returns-in-Ok c =
    read (view c.in-Some.tables) (document_view c.in-Ok.document) (sym (rw c.in-Some.is at c.in_ok-tables.ensures))
    c.in-Ok.ensures.given c.in_ok-net_more-in-Ok.ensures

pub returns : goal.returns
returns c =
    unread (fault_view c.in-Err-Document.field-0-0)
    (rw c.in-Err-Document.field-0-is at c.in-Err-Document.ensures.given) c.new-in-Err-Document.ensures.bytes
