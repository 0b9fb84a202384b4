-- A node after a step, with the order and the counts that it had before.
use Rattle.spec_node.specs.State.{Node}

abbrev pub uncounted : Node → Node → Node
uncounted before after = record after { order = before.order; conflicts_since_restart = before.conflicts_since_restart; conflicts_since_dropping = before.conflicts_since_dropping }
