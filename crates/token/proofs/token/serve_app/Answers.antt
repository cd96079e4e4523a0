use Rattle.token.proofs.token.serve_app.Goals as goal

pub returns-in-Ok-clause-refused : goal.returns-in-Ok-clause-refused
returns-in-Ok-clause-refused g c = rw (← c.is_in_use_for-others_have_sessions.ensures) c.serve_at_desk-outcome.ensures.refused
