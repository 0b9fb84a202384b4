use Rattle.mal_freeze.specs.declared.parts.Parts.{Parts}
use Rattle.spec_node.specs.State.{Node}

-- the node of these parts
abbrev pub node_of : Parts → Node
node_of p = record {
  index = p.index;
  profile = p.profile;
  variables = p.variables;
  serial = p.serial;
  conflicts_since_restart = p.conflicts_since_restart;
  restart_number = p.restart_number;
  conflicts_since_dropping = p.conflicts_since_dropping;
  processed = p.processed;
  conflict = p.conflict;
  verdict = p.verdict;
  assumptions = p.assumptions.items;
  order = p.order.items;
  phases = p.phases.items;
  trail = p.trail.items;
  clauses = p.clauses.items;
}
