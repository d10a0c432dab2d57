use Rattle.command_lines.proofs.serve_words.connections_of.Goals as goal

pub returns-in-Some : goal.returns-in-Some
returns-in-Some c = rw c.in-Some.is c.some_connections.ensures
