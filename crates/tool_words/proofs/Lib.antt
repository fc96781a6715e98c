mod Numbers
mod Walking
mod Leaves
mod Top
mod Plain
mod Forms
mod Asking
