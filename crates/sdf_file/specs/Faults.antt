-- The faults of the layers below as faults of files, with one fault for refused allocations.
use Rattle.sdf_document.specs.declared.fault.ReadFault.{ReadFault}
use Rattle.sdf_document.specs.declared.fault.ReadFault.TheVariants as reads
use Rattle.sdf_actor.specs.declared.fault.NetFault.{NetFault}
use Rattle.sdf_actor.specs.declared.fault.NetFault.TheVariants as nets
use Rattle.sdf_file.specs.declared.fault.FileFault.{FileFault}
use Rattle.sdf_file.specs.declared.fault.FileFault.TheVariants.{OutOfMemory, Document, Net}

abbrev pub of_read : ReadFault → FileFault
of_read reads.OutOfMemory = OutOfMemory
of_read (reads.Document fault) = Document fault

abbrev pub of_net : NetFault → FileFault
of_net nets.OutOfMemory = OutOfMemory
of_net fault = Net fault
