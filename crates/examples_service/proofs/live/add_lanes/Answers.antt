use Rattle.examples_service.proofs.live.add_lanes.Goals as goal

pub returns : goal.returns
returns g c = λ ready. rw (c.in_ok-_fourth.ensures.ok, c.in_ok-_third.ensures.ok, c.in_ok-_second.ensures.ok)
    (c.traces_start_ready.ensures.thread _ _ (c.traces_start_ready.ensures.thread _ _ (c.traces_start_ready.ensures.thread _ _ ready)))

pub returns-in_err-_second : goal.returns-in_err-_second
returns-in_err-_second g c = λ ready. rw (c.in_err-_second.ensures.err) ready

pub returns-in_err-_third : goal.returns-in_err-_third
returns-in_err-_third g c = λ ready. rw (c.in_err-_third.ensures.err, c.in_ok-_second.ensures.ok) (c.traces_start_ready.ensures.thread _ _ ready)

pub returns-in_err-_fourth : goal.returns-in_err-_fourth
returns-in_err-_fourth g c = λ ready. rw (c.in_err-_fourth.ensures.err, c.in_ok-_third.ensures.ok, c.in_ok-_second.ensures.ok)
    (c.traces_start_ready.ensures.thread _ _ (c.traces_start_ready.ensures.thread _ _ ready))
