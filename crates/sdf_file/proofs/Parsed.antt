-- What is read of a parsed graph file is what is read of its bytes, and a fault of its parse is a fault of them.
use Rattle.std.proofs.Common.{◌≡◌, ℕ, List, Ok, refl}
use Rattle.sdf_document.specs.Lists.{Files}
use Rattle.sdf_document.specs.Document.{Members, graph_table, document_in, document_of, file_names_in, file_names_of}
use Rattle.sdf_file.specs.declared.fault.FileFault.{FileFault}
use Rattle.sdf_file.specs.declared.fault.FileFault.TheVariants.{OutOfMemory, Document, Net}
use Rattle.sdf_file.specs.Designs.{IsReadFault, IsNamesFault, IsFileFault}

pub names_parsed : (graph : List ℕ) (ms : Members) → graph_table graph ≡ Ok ms → file_names_of graph ≡ file_names_in ms
unfolding file_names_of
names_parsed graph ms is = rw is refl

pub names_unparsed : (graph : List ℕ) (fault : FileFault) → IsReadFault (graph_table graph) fault →
    IsNamesFault graph fault
unfolding file_names_of
names_unparsed graph OutOfMemory h = tt
names_unparsed graph (Document fault) h = rw h refl
names_unparsed graph (Net fault) h = h

pub document_parsed : (graph : List ℕ) (files : Files) (ms : Members) → graph_table graph ≡ Ok ms →
    document_of graph files ≡ document_in ms files
unfolding document_of
document_parsed graph files ms is = rw is refl

pub document_unparsed : (graph : List ℕ) (files : Files) (fault : FileFault) → IsReadFault (graph_table graph) fault →
    IsFileFault graph files fault
unfolding document_of
document_unparsed graph files OutOfMemory h = tt
document_unparsed graph files (Document fault) h = rw h refl
document_unparsed graph files (Net fault) h = absurd h
