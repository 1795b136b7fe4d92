use Rattle.sdf_json.proofs.KindPorts.{have_ports}
use Rattle.sdf_json.proofs.ports.kinds_have_their_ports.Goals as goal

pub returns : goal.returns
returns c = have_ports
